use Rattle.std.proofs.Common.{arith}
use Rattle.record.proofs.Written.{places_bound}
use Rattle.record.proofs.write.state_len.Goals as goal

pub places_len-requires-clause-bound : goal.places_len-requires-clause-bound
places_len-requires-clause-bound c = let b = places_bound c.args.row.now (omega arith) in omega arith

pub overflow_add-result : goal.overflow_add-result
overflow_add-result c = let b = places_bound c.args.row.now (omega arith) in omega arith
