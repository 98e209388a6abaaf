-- The laws hold whatever is returned: lemmas of the meaning.
use Rattle.meaning.proofs.Laws.{transpose_at_atoms, closure_at_atoms}
use Rattle.tuples.proofs.tuples.Tuples.turned.Goals as goal

pub returns-then-self-ne2-clause-transpose : goal.returns-then-self-ne2-clause-transpose
returns-then-self-ne2-clause-transpose c = transpose_at_atoms

pub returns-then-self-ne2-clause-closure : goal.returns-then-self-ne2-clause-closure
returns-then-self-ne2-clause-closure c = closure_at_atoms

pub returns-clause-transpose : goal.returns-clause-transpose
returns-clause-transpose c = transpose_at_atoms

pub returns-clause-closure : goal.returns-clause-closure
returns-clause-closure c = closure_at_atoms
