-- The laws hold whatever is returned: lemmas of the meaning.
use Rattle.std.proofs.Common.{◌≡◌, ℕ, ◌<◌, sym, subst, ◌∙◌, rules}
use Rattle.meaning.specs.Tuples.{tuples}
use Rattle.problem.specs.Sorts.{outcome}
use Rattle.meaning.proofs.Laws.{join_at_atoms, product_at_atoms, tables_stand}
use Rattle.tuples.proofs.tuples.Tuples.combined.Goals as goal

pub returns-in-Some-clause-tables : goal.returns-in-Some-clause-tables
returns-in-Some-clause-tables c = tables_stand

pub returns-in-Some-clause-join : goal.returns-in-Some-clause-join
returns-in-Some-clause-join c = join_at_atoms

pub returns-in-Some-clause-product : goal.returns-in-Some-clause-product
returns-in-Some-clause-product c = product_at_atoms

pub returns-in-None-clause-tables : goal.returns-in-None-clause-tables
returns-in-None-clause-tables c = tables_stand

pub returns-in-None-clause-join : goal.returns-in-None-clause-join
returns-in-None-clause-join c = join_at_atoms

pub returns-in-None-clause-product : goal.returns-in-None-clause-product
returns-in-None-clause-product c = product_at_atoms

pub returns-in-Some-clause-suited : goal.returns-in-Some-clause-suited
returns-in-Some-clause-suited c fits =
    let e : c.in-Some.arity ≡ outcome c.args.operator c.args.self.now.arity c.args.other.now.arity = search rules in (
      c.tabled.ensures.arity ∙ e,
      λ r l. let h = c.tabled.ensures.values r (subst (λ (k : ℕ). r < tuples c.args.atoms.count k) (sym e) l) in search rules,
    )
