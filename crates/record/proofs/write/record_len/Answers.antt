use Rattle.std.proofs.Common.{◌≤◌, arith}
use Rattle.record.proofs.Written.{states_bound}
use Rattle.record.proofs.write.record_len.Goals as goal

pub states_len-requires : goal.states_len-requires
states_len-requires c = rw (c.table.ensures, c.states.ensures.value) (let b = states_bound c.args.trace.now in omega arith)

pub overflow_add-result : goal.overflow_add-result
overflow_add-result c =
    let b : c.states_len.result ≤ 18466 = rw (c.states_len.ensures, c.table.ensures, c.states.ensures.value) (states_bound c.args.trace.now) in
    omega arith
