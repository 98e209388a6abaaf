-- The laws hold whatever is returned: lemmas of the meaning.
use Rattle.meaning.proofs.Laws.{rounds}
use Rattle.meaning.proofs.TooFew.{one_round_is_too_few}
use Rattle.meaning.proofs.OnLassos.{rows_right, formulas_stand}
use Rattle.rows.proofs.window.Window.of.Goals as goal

pub returns-then-states-gt-MOST_INSTANTS-clause-again : goal.returns-then-states-gt-MOST_INSTANTS-clause-again
returns-then-states-gt-MOST_INSTANTS-clause-again c = rounds

pub returns-then-states-gt-MOST_INSTANTS-clause-late : goal.returns-then-states-gt-MOST_INSTANTS-clause-late
returns-then-states-gt-MOST_INSTANTS-clause-late c = one_round_is_too_few

pub returns-then-states-gt-MOST_INSTANTS-clause-parts : goal.returns-then-states-gt-MOST_INSTANTS-clause-parts
returns-then-states-gt-MOST_INSTANTS-clause-parts c = rows_right

pub returns-then-states-gt-MOST_INSTANTS-clause-enough : goal.returns-then-states-gt-MOST_INSTANTS-clause-enough
returns-then-states-gt-MOST_INSTANTS-clause-enough c = formulas_stand

pub returns-clause-again : goal.returns-clause-again
returns-clause-again c = rounds

pub returns-clause-late : goal.returns-clause-late
returns-clause-late c = one_round_is_too_few

pub returns-clause-parts : goal.returns-clause-parts
returns-clause-parts c = rows_right

pub returns-clause-enough : goal.returns-clause-enough
returns-clause-enough c = formulas_stand
