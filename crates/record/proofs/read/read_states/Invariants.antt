use Rattle.std.proofs.Common.{◌≡◌}
use Rattle.record.proofs.Taken.{RowsRead}
use Rattle.record.proofs.read.read_states.Given as goal

abbrev pub invariant-loop-row : goal.invariant-loop-row
invariant-loop-row l =
    (l.reader.bytes.now ≡ l.fn.reader.bytes.now)
    × RowsRead l.fn.reader.bytes.now l.header.places l.header.shape.states l.fn.reader.at l.row-index l.reader.at l.row-items
