use Rattle.std.proofs.Common.{◌≡◌, ◌-◌, take}
use Rattle.lasso.specs.declared.value.Value.TheVariants.{Open}
use Rattle.logs.specs.Logs.{said}
use Rattle.logs.specs.Meanings.{latest_of}
use Rattle.logs.proofs.Parses.{Seen}
use Rattle.logs.proofs.log.calls.latest_at.Given as goal

abbrev pub invariant-loop-done : goal.invariant-loop-done
invariant-loop-done l =
    let bs = l.fn.reader.bytes.now in
    (l.reader.bytes.now ≡ bs)
    × Seen bs l.header.places ((said bs).instants - l._done) l.reader.at l._done (said bs).marks
    × (l.value ≡ latest_of l.place Open (take l._done (said bs).marks))
