-- A place that is no and yes in turn: once it was yes holds a period later, and not at the first instant.
use Rattle.std.proofs.Common.{◌≡◌, ℕ, zero, suc, ◌+◌, sym, subst, refl, ap, ◌∙◌, arith, []}
use Rattle.lasso.specs.declared.value.Value.{Value}
use Rattle.lasso.specs.declared.value.Value.TheVariants.{No, Yes}
use Rattle.lasso.specs.Lassos.{state_at, path}
use Rattle.lasso.proofs.Folds.{state_at_first}
use Rattle.problem.specs.declared.node.Test.TheVariants as test
use Rattle.problem.specs.declared.node.Prefix.TheVariants as prefix
use Rattle.meaning.specs.Levels.{at_yes, AtLeast}
use Rattle.meaning.specs.Formulas.{relation, Formula, tested, prefixed}
use Rattle.meaning.specs.Meaning.{Reaches}
use Rattle.meaning.specs.Laws.{OneRoundIsTooFew}

-- no in state 0, yes after
abbrev turns : ℕ → ℕ → Value
turns zero p = No
turns (suc s) p = Yes

abbrev once_yes : Formula
once_yes = prefixed prefix.Once (tested test.Some (relation 0 1))

not_first : Reaches 1 (path 2 0 turns) once_yes [] at_yes 0 → ⊥
not_first o =
    let e : o.0 ≡ 0 = omega arith in
    let s : state_at 2 0 o.0 ≡ 0 = ap (state_at 2 0) e ∙ state_at_first 2 0 0 (omega arith) in
    subst (λ (x : ℕ). AtLeast at_yes (turns x (0 + o.2.0))) s o.2.2

then_yes : Reaches 1 (path 2 0 turns) once_yes [] at_yes 2
then_yes = (1, omega arith, (0, omega arith, subst (λ (x : ℕ). AtLeast at_yes (turns x 0)) (sym (state_at_first 2 0 1 (omega arith))) tt))

pub one_round_is_too_few : OneRoundIsTooFew
one_round_is_too_few = record {
  atoms = 1;
  states = 2;
  start = 0;
  values = turns;
  loops = omega arith;
  formula = once_yes;
  past = refl;
  level = at_yes;
  instant = 0;
  late = omega arith;
  differs = λ d. not_first (d.1 then_yes);
}
