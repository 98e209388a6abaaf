use Rattle.std.proofs.Common.{ℕ, ◌+◌, ◌<◌, ◌≤◌}
use Rattle.trace.specs.Tables.{Alike}
use Rattle.trace.proofs.fewest.Lasso.round_seen.Given as goal

abbrev pub invariant-loop-i : goal.invariant-loop-i
invariant-loop-i l = (i : ℕ) → l.from ≤ i → i < l.i → Alike l.self.shape.states l.self.shape.loop_start l.self.held.now (i + l.period) i
