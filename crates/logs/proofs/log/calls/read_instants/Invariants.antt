use Rattle.std.proofs.Common.{◌≡◌, ◌-◌}
use Rattle.logs.proofs.Parses.{Going}
use Rattle.logs.proofs.log.calls.read_instants.Given as goal

abbrev pub invariant-loop-done : goal.invariant-loop-done
invariant-loop-done l =
    (l.reader.bytes.now ≡ l.fn.reader.bytes.now)
    × Going l.fn.reader.bytes.now l.header.places l.header.instants (l.header.instants - l._done) l.reader.at l.fn.reader.at
