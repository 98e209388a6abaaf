-- Counted lists of numbers whose places ascend, as logs and records have them; f gives the place of a number. Assumes nothing.
use Rattle.std.specs.Prelude.{ℕ, zero, suc, ◌+◌, ◌<◌, ◌≤◌, cond, ◌&&◌, List, [], ◌∷◌, ◌++◌, length, Ok, Err, Result, nat_le, nat_lt}
use Rattle.std.specs.List.{flat_map}
use Rattle.faults.specs.declared.Fault.{Fault}
use Rattle.faults.specs.declared.Fault.TheVariants.{PlaceOutOfOrder}
use Rattle.numbers.specs.Numbers.{Number, encode, and_then, read_at, within}

-- something that was read, and the byte after it
pub record Read (X : Type 0) : Type 0 where
  pub got : X
  pub next : ℕ

abbrev pub read : {X : Type 0} → X → ℕ → Read X
read x at = record { got = x; next = at }

-- a number whose place is from `low` on and below n
abbrev pub entry : (ℕ → ℕ) → List ℕ → ℕ → ℕ → ℕ → Result Number Fault
entry f bs at low n = and_then (read_at bs at) (λ v. cond (nat_le low (f v.value) && nat_lt (f v.value) n) (Ok v) (Err (PlaceOutOfOrder at)))

-- c numbers, the place of each from `low` on, above the one before it and below n, after those in ps
abbrev pub entries : (ℕ → ℕ) → List ℕ → ℕ → ℕ → ℕ → ℕ → List ℕ → Result (Read (List ℕ)) Fault
entries f bs n zero low at ps = Ok (read ps at)
entries f bs n (suc c) low at ps =
    and_then (entry f bs at low n) (λ v. entries f bs n c (f v.value + 1) v.next (ps ++ v.value ∷ []))

-- a list: how many numbers it has, at most n, and these
abbrev pub list : (ℕ → ℕ) → List ℕ → ℕ → ℕ → Result (Read (List ℕ)) Fault
list f bs n at = and_then (within bs at 0 n) (λ v. entries f bs n v.value 0 v.next [])

-- k lists, after those in rows
abbrev pub lists : (ℕ → ℕ) → List ℕ → ℕ → ℕ → ℕ → List (List ℕ) → Result (Read (List (List ℕ))) Fault
lists f bs n zero at rows = Ok (read rows at)
lists f bs n (suc k) at rows = and_then (list f bs n at) (λ v. lists f bs n k v.next (rows ++ v.got ∷ []))

-- the bytes of a list
abbrev pub list_bytes : List ℕ → List ℕ
list_bytes ps = encode (length ps) ++ flat_map encode ps

-- the places of rs ascend from low on, below n
abbrev pub Ascends : (ℕ → ℕ) → ℕ → ℕ → List ℕ → Type 0
Ascends f low n [] = Unit {0}
Ascends f low n (r ∷ rs) = (low ≤ f r) × (f r < n) × Ascends f (f r + 1) n rs

-- the places of each list ascend below n, and it has at most n numbers
abbrev pub Good : (ℕ → ℕ) → ℕ → List (List ℕ) → Type 0
Good f n [] = Unit {0}
Good f n (ps ∷ rows) = Ascends f 0 n ps × (length ps ≤ n) × Good f n rows
