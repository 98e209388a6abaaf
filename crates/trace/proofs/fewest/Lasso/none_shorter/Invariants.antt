use Rattle.std.proofs.Common.{ℕ, ◌<◌}
use Rattle.trace.specs.Tables.{NoLassoOf}
use Rattle.trace.proofs.fewest.Lasso.none_shorter.Given as goal

abbrev pub invariant-loop-states : goal.invariant-loop-states
invariant-loop-states l = (m : ℕ) → m < l.states → NoLassoOf m l.self.shape.states l.self.shape.loop_start l.self.held.now
