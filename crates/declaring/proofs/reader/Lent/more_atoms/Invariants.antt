use Rattle.std.proofs.Common.{◌≡◌, ◌-◌}
use Rattle.tokens.specs.Cursors.{cursor}
use Rattle.declaring.specs.Sets.{most_text}
use Rattle.declaring.specs.Known.{known}
use Rattle.declaring.specs.Declaring.{further_atoms}
use Rattle.declaring.specs.Readers.{SameLoans}
use Rattle.declaring.proofs.reader.Lent.more_atoms.Given as goal

abbrev pub invariant-atoms : goal.invariant-atoms
invariant-atoms l = record {
  value : further_atoms (most_text - l._turn) (cursor l.self.tokens.now) (known l.self.declared.now) ≡ further_atoms most_text (cursor l.fn.self.tokens.now) (known l.fn.self.declared.now);
  same : SameLoans l.fn.self l.self;
}
