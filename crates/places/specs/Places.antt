-- The places of a problem, by how many tuples each relation may have, for src/numbers. Assumes nothing.
use Rattle.std.specs.Prelude.{ℕ, ◌+◌, cond, List, take, Some, None, sum, Option, nat_lt, slice_index}
use Rattle.places.specs.declared.numbers.Tuple.{Tuple}

-- how many places the relations before an index have
abbrev pub before : List ℕ → ℕ → ℕ
before ss i = sum (take i ss)

abbrev pub place_count : List ℕ → ℕ
place_count ss = sum ss

-- the place of a tuple of a relation
abbrev pub place_of : List ℕ → ℕ → ℕ → Option ℕ
place_of ss i t = cond (nat_lt t (slice_index ss i)) (Some (before ss i + t)) None

abbrev pub place_of_tuple : List ℕ → Tuple → Option ℕ
place_of_tuple ss t = place_of ss t.relation t.tuple
