use Rattle.record.specs.Writing.{SoFar}
use Rattle.record.proofs.Written.{up_to}
use Rattle.record.proofs.write.put_states.Given as goal

abbrev pub invariant-loop-row : goal.invariant-loop-row
invariant-loop-row l = SoFar (up_to l.trace l.row-index) l.fn.buffer l.buffer l.at
