use Rattle.std.proofs.Common.{◌≡◌, ℕ, ◌-◌, ◌<◌, ◌≤◌, length}
use Rattle.lasso.specs.declared.value.Value.{Value}
use Rattle.meaning.specs.Tables.{table_at}
use Rattle.meaning.specs.Rows.{back}
use Rattle.rows.specs.Steps.{StepsBy}
use Rattle.rows.proofs.row.Row.filled_back.Given as goal

abbrev pub invariant-fill : goal.invariant-fill
invariant-fill g l =
    (length l.values ≡ 85) ×
    ((f : ℕ → Value → Value) → StepsBy (goal.F-post g l.step) f →
    (l.next ≡ back f l.initial.next (l.end - l.i) l.i) ×
    ((m : ℕ) → l.i ≤ m → m < l.end → table_at l.values m ≡ back f l.initial.next (l.end - m) m))
