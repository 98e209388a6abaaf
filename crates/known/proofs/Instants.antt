-- The instants of a source and the states of its copy.
use Rattle.std.proofs.Common.{◌≡◌, ℕ, ◌<◌, ◌≤◌, sym, ap, ◌∙◌, ⊎_elim, arith}
use Rattle.std.proofs.lemmas.Bool.{cases_lt}
use Rattle.lasso.specs.Lassos.{state_at}
use Rattle.lasso.proofs.Folds.{state_at_first, state_at_below}
use Rattle.source.specs.Meanings.{Meaning, told_at}
use Rattle.table.specs.declared.table.Table.{Table}
use Rattle.table.specs.Tables.{value_in, Copied}

-- the state of a table at an instant
abbrev pub state : Table → ℕ → ℕ
state t i = state_at t.shape.states t.shape.loop_start i

pub state_below : (t : Table) (i : ℕ) → state t i < t.shape.states
state_below t i = state_at_below t.shape.states t.shape.loop_start i t.shape.loops

-- a state is an instant that is not later
pub state_soon : (t : Table) (i : ℕ) → state t i ≤ i
state_soon t i =
    ⊎_elim
    (λ lo. omega (arith, state_at_first t.shape.states t.shape.loop_start i lo))
    (λ hi. omega (arith, state_below t i))
    (cases_lt i t.shape.states)

pub same_state : (m : Meaning) (t : Table) → Copied m t → (i : ℕ) → state_at m.states m.start i ≡ state t i
same_state m t c i =
    ap (λ k. state_at k m.start i) (sym c.states_are) ∙ ap (λ l. state_at t.shape.states l i) (sym c.start_is)

pub told_in : (m : Meaning) (t : Table) → Copied m t → (i s q : ℕ) → state_at m.states m.start i ≡ s → told_at m q i ≡ value_in t s q
told_in m t c i s q e = sym (c.value (state_at m.states m.start i) q) ∙ ap (λ x. value_in t x q) e

pub told_is : (m : Meaning) (t : Table) → Copied m t → (i q : ℕ) → told_at m q i ≡ value_in t (state t i) q
told_is m t c i q = told_in m t c i (state t i) q (same_state m t c i)

pub told_first : (m : Meaning) (t : Table) → Copied m t → (s q : ℕ) → s < t.shape.states → told_at m q s ≡ value_in t s q
told_first m t c s q h = told_in m t c s s q (same_state m t c s ∙ state_at_first t.shape.states t.shape.loop_start s h)
