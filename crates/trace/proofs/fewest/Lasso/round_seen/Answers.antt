use Rattle.std.proofs.Common.{◌+◌, ◌≤◌, below_more}
use Rattle.trace.specs.Tables.{Alike}
use Rattle.trace.proofs.fewest.Lasso.round_seen.Goals as goal

pub loop-i-preserved : goal.loop-i-preserved
loop-i-preserved c =
    let s = c.args.self.now.shape in
    λ i m b. below_more (λ j. c.args.from ≤ j → Alike s.states s.loop_start c.args.self.now.held.now (j + c.args.period) j) c.loop-i.i
    (λ j h n. c.loop-i.invariant j n h) (λ _. c.alike.ensures.0 c.if-not-alike.false) i b m
