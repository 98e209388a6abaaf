use Rattle.std.proofs.Common.{◌≡◌, ℕ, ◌+◌, ◌*◌, ◌<◌, ◌≤◌, drop, get_or, length, Some, vec_items, vec_len}
use Rattle.cases.specs.Hex.{digit_of, both}
use Rattle.cases.proofs.hex.pairs_of.Given as goal

abbrev pub invariant-pairs : goal.invariant-pairs
invariant-pairs l =
    (l.rest ≡ drop (2 * vec_len l.bytes) l.text)
    × (2 * vec_len l.bytes ≤ length l.text)
    × ((k : ℕ) → k < vec_len l.bytes → both (digit_of (get_or l.text (2 * k) 0)) (digit_of (get_or l.text (2 * k + 1) 0)) ≡ Some (get_or (vec_items l.bytes) k 0))

abbrev pub decreases-pairs : goal.decreases-pairs
decreases-pairs l = length l.rest
