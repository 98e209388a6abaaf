-- What a writer keeps while it writes. Assumes nothing.
use Rattle.std.specs.Prelude.{◌≡◌, ℕ, Bool, cond, List, [], ◌++◌, length, take}
use Rattle.std.specs.List.{flat_map}
use Rattle.numbers.specs.Numbers.{encode, over}
use Rattle.numbers.specs.Lists.{list_bytes}
use Rattle.record.specs.Records.{helds}

-- the bytes of a row's state
abbrev pub state_of : List Bool → List ℕ
state_of row = list_bytes (helds 0 row)

-- the bytes of a place: its number if it is held
abbrev pub place_bytes : ℕ → Bool → List ℕ
place_bytes p held = cond held (encode p) []

-- the bytes of a state, up to the place p
abbrev pub front : List Bool → ℕ → List ℕ
front row p = encode (length (helds 0 row)) ++ flat_map encode (helds 0 (take p row))

-- xs stands at the start of what was old, and ends at `at`
pub record SoFar (xs old buf : List ℕ) (at : ℕ) : Type 0 where
  pub bytes : buf ≡ over xs old
  pub end : at ≡ length xs

-- what stood there goes on from xs to ys
abbrev pub Goes : List ℕ → List ℕ → ℕ → List ℕ → List ℕ → ℕ → Type 0
Goes xs buf at ys buf' at' = (old : List ℕ) → SoFar xs old buf at → SoFar ys old buf' at'
