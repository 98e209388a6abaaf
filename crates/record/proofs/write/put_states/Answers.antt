use Rattle.std.proofs.Common.{refl, arith}
use Rattle.record.proofs.Written.{state_then}
use Rattle.record.proofs.write.put_states.Goals as goal

pub loop-row-preserved : goal.loop-row-preserved
loop-row-preserved c =
    state_then c.args.trace.now c.table.result.now c.loop-row.row-index c.states.result c.table.ensures (omega arith) c.states.ensures.value _ _ _ _ _ _ c.loop-row.invariant refl c.put_state-at.ensures.after c.put_state-at.ensures.len
