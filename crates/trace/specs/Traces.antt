-- Traces and their behaviours, for src/trace. Assumes nothing.
use Rattle.std.specs.Prelude.{◌≡◌, ℕ, ◌≤◌, Bool, false, List}
use Rattle.lasso.specs.declared.shape.Shape.{Shape}
use Rattle.lasso.specs.Lassos.{path, Fewest}
use Rattle.trace.specs.declared.trace.Trace.{Trace}
use Rattle.trace.specs.Tables.{most_places, most_states, holds, NoneOutside}

-- a lasso without open values that is a trace
pub record IsTrace (places : ℕ) (shape : Shape) (held : List (List Bool)) : Type 0 where
  pub few_places : places ≤ most_places
  pub few_states : shape.states ≤ most_states
  pub none_outside : NoneOutside places shape.states held
  pub fewest : Fewest shape.states shape.loop_start (holds held)

-- no place, one state that follows itself
pub record Fresh (t : Trace) : Type 0 where
  pub no_place : t.places ≡ 0
  pub one_state : t.shape.states ≡ 1
  pub loop_start : t.shape.loop_start ≡ 0
  pub nothing : (s p : ℕ) → holds t.held s p ≡ false

-- whether a place is held in a state
abbrev pub held_in : Trace → ℕ → ℕ → Bool
held_in t = holds t.held

-- the behaviour of a trace: whether a place is held at an instant of its endless path
abbrev pub behaviour : Trace → ℕ → ℕ → Bool
behaviour t = path t.shape.states t.shape.loop_start (held_in t)

-- two traces have the same counts, and hold the same in each state
pub record SameFields (t u : Trace) : Type 0 where
  pub places : t.places ≡ u.places
  pub states : t.shape.states ≡ u.shape.states
  pub loop_start : t.shape.loop_start ≡ u.shape.loop_start
  pub held : (s p : ℕ) → held_in t s p ≡ held_in u s p

-- two traces have as many places, and each of these has the same value at each instant
pub record SameBehaviour (t u : Trace) : Type 0 where
  pub places : t.places ≡ u.places
  pub same : (i p : ℕ) → behaviour t i p ≡ behaviour u i p
