use Rattle.std.proofs.Common.{◌≡◌, ℕ, length}
use Rattle.lasso.specs.declared.value.Value.{Value}
use Rattle.meaning.specs.Rows.{RowIs, forth}
use Rattle.rows.specs.Steps.{StepsBy}
use Rattle.rows.proofs.Steps.{prior}
use Rattle.rows.proofs.row.Row.walked_forth.Given as goal

abbrev pub invariant-fill : goal.invariant-fill
invariant-fill g l =
    (length l.values ≡ 85) ×
    ((f : ℕ → Value → Value) → StepsBy (goal.F-post g l.step) f →
    (l.last ≡ prior f l.initial.last l.i) × RowIs l.i l.values (forth f l.initial.last))
