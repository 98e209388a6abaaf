use Rattle.known.specs.States.{StateKnown}
use Rattle.known.proofs.told.Told.know_state.Given as goal

abbrev pub invariant-places : goal.invariant-places
invariant-places l = StateKnown l.self.problem.now l.self.table.now l.state.0 l.place l.initial.known l.known
