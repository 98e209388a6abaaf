use Rattle.std.proofs.Common.{◌≡◌, ◌-◌}
use Rattle.relations.specs.Declarations.{atoms_of}
use Rattle.tokens.specs.Cursors.{cursor}
use Rattle.declaring.specs.Sets.{listed, tuples, most_text}
use Rattle.declaring.specs.Readers.{SameLoans}
use Rattle.declaring.proofs.reader.Lent.tuples.Given as goal

abbrev pub invariant-tuples : goal.invariant-tuples
invariant-tuples l = record {
  value : tuples (most_text - l._turn) (atoms_of l.fn.self.declared.now) l.arity (cursor l.self.tokens.now) (listed l.tuples)
      ≡ tuples most_text (atoms_of l.fn.self.declared.now) l.arity (cursor l.fn.self.tokens.now) (listed l.fn.tuples);
  kept : l.self.declared.now ≡ l.fn.self.declared.now;
  same : SameLoans l.fn.self l.self;
}
