-- A trace as a record, for src/write and src/read. Assumes nothing.
use Rattle.std.specs.Prelude.{ℕ, ◌+◌, Bool, false, cond, ◌||◌, List, [], ◌∷◌, ◌++◌, map, take, ◌==◌, slice_index_or}
use Rattle.std.specs.List.{flat_map}
use Rattle.trace.specs.declared.trace.Trace.{Trace}
use Rattle.numbers.specs.Numbers.{encode}
use Rattle.numbers.specs.Lists.{list_bytes}

-- the place of a number in a record: the number
abbrev pub itself : ℕ → ℕ
itself v = v

-- the places that a row holds, ascending, where the row begins with the place i
abbrev pub helds : ℕ → List Bool → List ℕ
helds i [] = []
helds i (b ∷ bs) = cond b (i ∷ helds (i + 1) bs) (helds (i + 1) bs)

-- what a record says: how many places and states, the loop start, and for each state the held places, ascending
pub record Said : Type 0 where
  pub places : ℕ
  pub states : ℕ
  pub start : ℕ
  pub rows : List (List ℕ)

-- the held places of the first k states
abbrev pub rows_of : ℕ → List (List Bool) → List (List ℕ)
rows_of k held = map (helds 0) (take k held)

-- what the record of a trace says
abbrev pub said : Trace → Said
said t = record { places = t.places; states = t.shape.states; start = t.shape.loop_start; rows = rows_of t.shape.states t.held }

-- the bytes of a record: edition 1, the counts and the loop start, then for each state a count and the held places
abbrev pub header : ℕ → ℕ → ℕ → List ℕ
header n k l = encode 1 ++ (encode n ++ (encode k ++ encode l))

abbrev pub header_of : Trace → List ℕ
header_of t = header t.places t.shape.states t.shape.loop_start

abbrev pub record_of : Said → List ℕ
record_of d = header d.places d.states d.start ++ flat_map list_bytes d.rows

-- whether a place is among those of a state
abbrev pub among : ℕ → List ℕ → Bool
among p [] = false
among p (q ∷ qs) = p == q || among p qs

-- whether a place is held in a state, by what a record says
abbrev pub holds_by : Said → ℕ → ℕ → Bool
holds_by d s p = among p (slice_index_or d.rows s [])
