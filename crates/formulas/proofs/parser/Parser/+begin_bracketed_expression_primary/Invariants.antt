use Rattle.std.proofs.Common.{◌+◌, ◌*◌}
use Rattle.formulas.proofs.parser.Parser.+begin_bracketed_expression_primary.Given as goal

abbrev pub decreases-begin : goal.decreases-begin
decreases-begin l = 4 * l.nesting.levels + 3

abbrev pub decreases-bracketed : goal.decreases-bracketed
decreases-bracketed l = 4 * l.nesting.levels + 2

abbrev pub decreases-expression : goal.decreases-expression
decreases-expression l = 4 * l.nesting.levels + 1

abbrev pub decreases-primary : goal.decreases-primary
decreases-primary l = 4 * l.nesting.levels
