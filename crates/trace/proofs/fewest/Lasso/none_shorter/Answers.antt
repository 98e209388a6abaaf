use Rattle.std.proofs.Common.{below_more}
use Rattle.trace.specs.Tables.{NoLassoOf}
use Rattle.trace.proofs.fewest.Lasso.none_shorter.Goals as goal

pub loop-states-preserved : goal.loop-states-preserved
loop-states-preserved c =
    let s = c.args.self.now.shape in
    below_more (λ m. NoLassoOf m s.states s.loop_start c.args.self.now.held.now) c.loop-states.states c.loop-states.invariant (c.no_lasso_of.ensures.0 c.if-not-no_lasso_of.false)
