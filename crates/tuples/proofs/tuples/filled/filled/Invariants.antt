use Rattle.std.proofs.Common.{◌≡◌, ℕ, ◌<◌, length, slice_index_or}
use Rattle.lasso.specs.declared.value.Value.{Value}
use Rattle.tuples.proofs.tuples.filled.filled.Given as goal

abbrev pub invariant-fill : goal.invariant-fill
invariant-fill g l = (length l.values ≡ g.row.N) × ((r : ℕ) (beyond : Value) → r < l.r → goal.F-post g l.value_of r (slice_index_or l.values r beyond))
