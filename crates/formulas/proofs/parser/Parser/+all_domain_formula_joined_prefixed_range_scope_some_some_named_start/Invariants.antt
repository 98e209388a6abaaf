use Rattle.std.proofs.Common.{◌+◌, ◌*◌}
use Rattle.formulas.proofs.parser.Parser.+all_domain_formula_joined_prefixed_range_scope_some_some_named_start.Given as goal

abbrev pub decreases-all : goal.decreases-all
decreases-all l = 8 * l.nesting.levels + 4

abbrev pub decreases-domain : goal.decreases-domain
decreases-domain l = 8 * l.nesting.levels + 3

abbrev pub decreases-formula : goal.decreases-formula
decreases-formula l = 8 * l.nesting.levels + 0

abbrev pub decreases-joined : goal.decreases-joined
decreases-joined l = 8 * l.nesting.levels + 1

abbrev pub decreases-prefixed : goal.decreases-prefixed
decreases-prefixed l = 8 * l.nesting.levels + 1

abbrev pub decreases-range : goal.decreases-range
decreases-range l = 8 * l.nesting.levels + 2

abbrev pub decreases-scope : goal.decreases-scope
decreases-scope l = 8 * l.nesting.levels + 1

abbrev pub decreases-some : goal.decreases-some
decreases-some l = 8 * l.nesting.levels + 4

abbrev pub decreases-some_named : goal.decreases-some_named
decreases-some_named l = 8 * l.nesting.levels + 3

abbrev pub decreases-start : goal.decreases-start
decreases-start l = 8 * l.nesting.levels + 5
