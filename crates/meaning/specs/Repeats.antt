-- What comes again at instants a period apart. Assumes nothing.
use Rattle.std.specs.Prelude.{ℕ, ◌+◌, ◌≤◌, ◌↔◌}
use Rattle.meaning.specs.Levels.{Level, Graded}

-- from an instant on, what is reached is reached a period later too, and the other way round
pub record RepeatsFrom (P : Graded) (from p : ℕ) : Type 0 where
  pub again : (t : Level) (i : ℕ) → from ≤ i → P t i ↔ P t (i + p)
