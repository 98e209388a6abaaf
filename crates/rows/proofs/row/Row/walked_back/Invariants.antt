use Rattle.std.proofs.Common.{◌≡◌, ℕ, ◌-◌, ◌≤◌}
use Rattle.lasso.specs.declared.value.Value.{Value}
use Rattle.meaning.specs.Rows.{back}
use Rattle.rows.specs.Steps.{StepsBy}
use Rattle.rows.proofs.row.Row.walked_back.Given as goal

abbrev pub invariant-round : goal.invariant-round
invariant-round g l =
    (l.start ≤ l.i) ×
    ((f : ℕ → Value → Value) → StepsBy (goal.F-post g l.step) f → l.next ≡ back f l.initial.next (l.end - l.i) l.i)
