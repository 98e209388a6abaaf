use Rattle.record.proofs.Exact.{written}
use Rattle.record.proofs.write.put_record.Goals as goal

pub returns : goal.returns
returns c = written c.args.trace.now c.args.buffer.now _ c.put_states.result c.put_states.ensures.len c.put_states.ensures.after
