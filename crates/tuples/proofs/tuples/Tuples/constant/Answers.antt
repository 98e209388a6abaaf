use Rattle.std.proofs.Common.{ℕ, ◌<◌, sym, subst, ◌∙◌, rules}
use Rattle.meaning.specs.Tuples.{tuples}
use Rattle.tuples.proofs.tuples.Tuples.constant.Goals as goal

pub returns : goal.returns
returns c =
    let n = c.args.atoms.count in (
      c.tabled.ensures.arity ∙ c.arity.ensures.value,
      λ r l. let h = c.tabled.ensures.values r (subst (λ (k : ℕ). r < tuples n k) (sym c.arity.ensures.value) l) in search rules,
    )
