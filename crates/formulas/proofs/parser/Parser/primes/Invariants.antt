use Rattle.std.proofs.Common.{◌≡◌, ◌-◌}
use Rattle.tokens.specs.Cursors.{cursor}
use Rattle.problem.specs.Sorts.{most_parts}
use Rattle.formulas.specs.Bodies.{Open, body}
use Rattle.formulas.specs.Expressions.{primes}
use Rattle.formulas.proofs.parser.Parser.primes.Given as goal

abbrev pub invariant-primes : goal.invariant-primes
invariant-primes l =
    (o : Open) → primes (most_parts - l._turn) l.place l.wish l.whole (cursor l.self.tokens) (body l.self.sketch) o
    ≡ primes most_parts l.place l.wish l.part (cursor l.initial.self.tokens) (body l.initial.self.sketch) o
