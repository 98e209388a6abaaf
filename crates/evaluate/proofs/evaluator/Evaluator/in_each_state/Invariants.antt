use Rattle.std.proofs.Common.{◌≡◌, ℕ, ◌<◌, length, slice_index_or}
use Rattle.evaluate.proofs.evaluator.Evaluator.in_each_state.Given as goal

abbrev pub invariant-states : goal.invariant-states
invariant-states g l = (length l.values ≡ 17) × ((s : ℕ) (d : g.row.T.Denot) → s < l.s → goal.F-post g l.of_state (record { 0 = s }) (slice_index_or l.values s d))
