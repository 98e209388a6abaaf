-- Which places are held in which states. Assumes nothing.
use Rattle.std.specs.Prelude.{◌≡◌, ℕ, ◌+◌, ◌-◌, ◌<◌, ◌≤◌, Bool, false, ◌⊎◌, List, [], length, replicate, slice_index_or}
use Rattle.lasso.specs.Lassos.{path, Repeats}

abbrev pub most_places : ℕ
most_places = 768

abbrev pub most_states : ℕ
most_states = 8

-- whether a state holds a place; beyond the table nothing is held
abbrev pub holds : List (List Bool) → ℕ → ℕ → Bool
holds held s p = slice_index_or (slice_index_or held s []) p false

-- each row of a table has its whole width
abbrev pub Wide : List (List Bool) → Type 0
Wide held = (s : ℕ) → s < most_states → length (slice_index_or held s []) ≡ most_places

-- the rows from a state on hold nothing
abbrev pub BlankFrom : ℕ → List (List Bool) → Type 0
BlankFrom s held = (j : ℕ) → s ≤ j → j < most_states → slice_index_or held j [] ≡ replicate most_places false

-- a row holds no place from a place on
abbrev pub Empty : List Bool → ℕ → Type 0
Empty row from = (p : ℕ) → from ≤ p → slice_index_or row p false ≡ false

-- nothing is held outside n places and k states
abbrev pub NoneOutside : ℕ → ℕ → List (List Bool) → Type 0
NoneOutside n k held = (s p : ℕ) → (k ≤ s) ⊎ (n ≤ p) → holds held s p ≡ false

-- at two instants of the endless path the same places are held
pub record Alike (k l : ℕ) (held : List (List Bool)) (i j : ℕ) : Type 0 where
  pub same : (p : ℕ) → path k l (holds held) i p ≡ path k l (holds held) j p

-- for k instants, what is held is held again after a period
abbrev pub RoundSeen : ℕ → ℕ → List (List Bool) → ℕ → ℕ → Type 0
RoundSeen k l held from period = (i : ℕ) → from ≤ i → i < from + k → Alike k l held (i + period) i

-- at no loop start does the endless path of the lasso (k, l) come round as a lasso of m states does
pub record NoLassoOf (m k l : ℕ) (held : List (List Bool)) : Type 0 where
  pub none : (start : ℕ) → start < m → Repeats k l (holds held) start (m - start) → ⊥
