use Rattle.table.specs.Tables.{CopiedTo}
use Rattle.table.proofs.copying.copied.Given as goal

abbrev pub invariant-states : goal.invariant-states
invariant-states g l = CopiedTo (g.S.Source.meaning l.source) l.s l.table
