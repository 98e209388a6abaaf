use Rattle.known.specs.States.{StatesKnown}
use Rattle.known.proofs.knowing.known_table.Given as goal

abbrev pub invariant-states : goal.invariant-states
invariant-states l = StatesKnown l.told.problem.now l.told.table.now l.s l.known
