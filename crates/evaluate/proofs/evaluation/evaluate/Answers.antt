-- The laws hold whatever is returned: lemmas of the meaning.
use Rattle.meaning.proofs.Laws.{at_most_one_value, expressions_stand, nodes_stand}
use Rattle.meaning.proofs.OnLassos.{value_on_lasso}
use Rattle.evaluate.proofs.evaluation.evaluate.Goals as goal

pub returns-clause-single : goal.returns-clause-single
returns-clause-single c = at_most_one_value

pub returns-clause-some : goal.returns-clause-some
returns-clause-some c = value_on_lasso

pub returns-clause-tables : goal.returns-clause-tables
returns-clause-tables c = expressions_stand

pub returns-clause-nodes : goal.returns-clause-nodes
returns-clause-nodes c = nodes_stand
