-- A ' sign that is refused: the readers of the signs that are left agree.
use Rattle.std.proofs.Common.{◌-◌, sym, ◌∙◌, arith}
use Rattle.problem.specs.Sorts.{most_parts}
use Rattle.std.proofs.lemmas.Result.{err_from_is_err_and}
use Rattle.formulas.proofs.Levels.{primes_fail}
use Rattle.formulas.proofs.parser.Parser.primes.Goals as goal

pub returns-in_err-whole : goal.returns-in_err-whole
returns-in_err-whole c =
    let p = err_from_is_err_and c.from_residual.result c.from_residual.ensures.1 in
    rw (p.1, p.2) (λ o. primes_fail (most_parts - c.primes._turn) _ _ _ _ _ _ _ o (omega arith) (sym c.is.ensures ∙ c.if-not-is.false) (c.in_err-whole.ensures o) ∙ c.primes.invariant o)
