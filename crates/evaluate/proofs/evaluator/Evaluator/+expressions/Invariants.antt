use Rattle.std.proofs.Common.{◌+◌, ◌*◌}
use Rattle.evaluate.proofs.evaluator.Evaluator.+expressions.Given as goal

abbrev pub decreases-expression : goal.decreases-expression
decreases-expression l = 2 * l.node + 1

abbrev pub decreases-expression_of_parts : goal.decreases-expression_of_parts
decreases-expression_of_parts l = 2 * l.node
