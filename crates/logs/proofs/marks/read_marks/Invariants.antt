use Rattle.std.proofs.Common.{◌≡◌, ◌-◌}
use Rattle.logs.proofs.Scans.{Scanned}
use Rattle.logs.proofs.marks.read_marks.Given as goal

abbrev pub invariant-loop-done : goal.invariant-loop-done
invariant-loop-done l =
    (l.reader.bytes.now ≡ l.fn.reader.bytes.now)
    × Scanned l.fn.reader.bytes.now l.places l.fn.reader.at (l.count - l._done) l.low l.reader.at l.place l.fn.value l.latest
