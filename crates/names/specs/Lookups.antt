-- Looking a name up in a list of names, for src/find. Assumes nothing.
use Rattle.std.specs.Prelude.{◌≡◌, ℕ, ◌<◌, List, [], length, get_or, Option, ◌≢◌, slice_index_or, position}
use Rattle.std.specs.Str.{bytes_eq}

-- the first place of a name
unfoldable pub index_of : List ℕ → List (List ℕ) → Option ℕ
index_of name names = position (λ x. bytes_eq x name) names

-- none of the names is this one
abbrev pub NoneNamed : List ℕ → List (List ℕ) → Type 0
NoneNamed name names = (k : ℕ) → k < length names → slice_index_or names k [] ≢ name

-- the name stands at that index, and at none before it
pub record FirstNamed (name : List ℕ) (names : List (List ℕ)) (i : ℕ) : Type 0 where
  pub inside : i < length names
  pub there : get_or names i [] ≡ name
  pub first : (k : ℕ) → k < i → slice_index_or names k [] ≢ name
