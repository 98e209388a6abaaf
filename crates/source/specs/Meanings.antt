-- What a source means. Assumes nothing.
use Rattle.std.specs.Prelude.{◌≡◌, ℕ, ◌<◌, ◌≤◌, ◌⊎◌}
use Rattle.lasso.specs.declared.value.Value.{Value}
use Rattle.lasso.specs.declared.value.Value.TheVariants.{Open}
use Rattle.lasso.specs.Lassos.{state_at}
use Rattle.trace.specs.Tables.{most_places}

abbrev pub most_states : ℕ
most_states = 17

-- how many places and states, the loop start, and the value of each place in each state
pub record Meaning : Type 0 where
  pub places : ℕ
  pub states : ℕ
  pub start : ℕ
  pub value : ℕ → ℕ → Value

-- what every source keeps: the limits, a loop start that is a state, and open beyond the counts
pub record Kept (m : Meaning) : Type 0 where
  pub few_places : m.places ≤ most_places
  pub few_states : m.states ≤ most_states
  pub loops : m.start < m.states
  pub beyond : (p s : ℕ) → (m.places ≤ p) ⊎ (m.states ≤ s) → m.value p s ≡ Open

-- what is told of a place at an instant of the endless path
abbrev pub told_at : Meaning → ℕ → ℕ → Value
told_at m p i = m.value p (state_at m.states m.start i)

-- a source means this path: at each instant its value at each of its places, and open at any other
pub record Means (m : Meaning) (places : ℕ) (path : ℕ → ℕ → Value) : Type 0 where
  pub count : m.places ≡ places
  pub inside : (p i : ℕ) → p < places → told_at m p i ≡ path p i
  pub outside : (p i : ℕ) → places ≤ p → told_at m p i ≡ Open
