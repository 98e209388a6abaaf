use Rattle.std.proofs.Common.{ℕ, ◌-◌, ◌<◌}
use Rattle.lasso.specs.Lassos.{Repeats}
use Rattle.trace.specs.Tables.{holds}
use Rattle.trace.proofs.fewest.Lasso.no_lasso_of.Given as goal

abbrev pub invariant-loop-start : goal.invariant-loop-start
invariant-loop-start l = (start : ℕ) → start < l.start → Repeats l.self.shape.states l.self.shape.loop_start (holds l.self.held.now) start (l.states - start) → ⊥
