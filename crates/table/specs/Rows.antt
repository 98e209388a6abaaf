-- The rows of a table, for src/table. Assumes nothing.
use Rattle.std.specs.Prelude.{◌≡◌, ℕ, ◌<◌, ◌≤◌, ◌⊎◌, List, [], length, slice_index_or}
use Rattle.lasso.specs.declared.value.Value.{Value}
use Rattle.lasso.specs.declared.value.Value.TheVariants.{Open}

-- the value in row s at place p; open beyond the rows
abbrev pub value_at : List (List Value) → ℕ → ℕ → Value
value_at rows s p = slice_index_or (slice_index_or rows s []) p Open

-- each row has its whole width
abbrev pub Wide : List (List Value) → Type 0
Wide rows = (s : ℕ) → s < 17 → length (slice_index_or rows s []) ≡ 768

-- all is open outside n places and k states
abbrev pub NoneBeyond : ℕ → ℕ → List (List Value) → Type 0
NoneBeyond n k rows = (s p : ℕ) → (k ≤ s) ⊎ (n ≤ p) → value_at rows s p ≡ Open
