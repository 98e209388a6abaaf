use Rattle.table.specs.Tables.{StateCopied}
use Rattle.table.proofs.copying.copy_state.Given as goal

abbrev pub invariant-places : goal.invariant-places
invariant-places g l = StateCopied (g.S.Source.meaning l.source) l.state.0 l.p l.initial.table l.table
