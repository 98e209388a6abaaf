-- Refusals that one number settles, whatever follows it. Assumes nothing.
use Rattle.std.specs.Prelude.{◌≡◌, ℕ, ◌+◌, ◌≤◌, Bool, true, ◌&&◌, List, length, take, Err, Result, nat_le}
use Rattle.faults.specs.declared.Fault.{Fault}
use Rattle.faults.specs.Table.{entry}
use Rattle.numbers.specs.Numbers.{most_bytes}

-- a number is at fault: its form, the edition, a limit, or the order of places
abbrev pub by_number : Fault → Bool
by_number f = nat_le 12 (entry f).number && nat_le (entry f).number 15

-- bytes that begin alike up to the end of the number at fault are refused alike
abbrev pub Settled : {X : Type 0} → (List ℕ → Result X Fault) → List ℕ → Fault → Type 0
Settled reads bs f = by_number f ≡ true → (other : List ℕ) → length other ≤ most_bytes → take ((entry f).place + 3) other ≡ take ((entry f).place + 3) bs → reads other ≡ Err f
