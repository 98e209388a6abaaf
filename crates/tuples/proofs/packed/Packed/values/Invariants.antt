use Rattle.std.proofs.Common.{◌*◌}
use Rattle.tuples.specs.Packing.{packed_table}
use Rattle.tuples.proofs.Unpacks.{Unpacked}
use Rattle.tuples.proofs.packed.Packed.values.Given as goal

abbrev pub invariant-fours : goal.invariant-fours
invariant-fours g l = Unpacked (4 * l.byte) l.values (packed_table l.self)
