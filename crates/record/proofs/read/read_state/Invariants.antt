use Rattle.std.proofs.Common.{◌≡◌, ◌-◌}
use Rattle.record.proofs.Taken.{Filling}
use Rattle.record.proofs.read.read_state.Given as goal

abbrev pub invariant-loop-done : goal.invariant-loop-done
invariant-loop-done l =
    (l.reader.bytes.now ≡ l.fn.reader.bytes.now)
    × Filling l.fn.reader.bytes.now l.places l.fn.reader.at (l.count - l._done) l.low l.reader.at l.row
