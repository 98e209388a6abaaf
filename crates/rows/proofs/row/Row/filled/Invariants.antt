use Rattle.std.proofs.Common.{◌≡◌, ℕ, ◌<◌, length}
use Rattle.meaning.specs.Tables.{table_at}
use Rattle.rows.proofs.row.Row.filled.Given as goal

abbrev pub invariant-fill : goal.invariant-fill
invariant-fill g l = (length l.values ≡ 85) × ((k : ℕ) → k < l.i → goal.F-post g l.value_at k (table_at l.values k))
