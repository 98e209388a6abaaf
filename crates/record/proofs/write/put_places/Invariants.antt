use Rattle.std.proofs.Common.{◌≡◌, length}
use Rattle.record.specs.Writing.{front, Goes}
use Rattle.record.proofs.write.put_places.Given as goal

abbrev pub invariant-loop-place : goal.invariant-loop-place
invariant-loop-place l = (l.at ≡ length (front l.row l.place)) × Goes (front l.row 0) l.initial.buffer l.start (front l.row l.place) l.buffer l.at
