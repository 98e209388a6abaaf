use Rattle.std.proofs.Common.{◌+◌, ◌*◌, slice_set}
use Rattle.meaning.specs.Tables.{quantified_value}
use Rattle.meaning.specs.Expressions.{expr_table}
use Rattle.meaning.specs.Rows.{RowIs}
use Rattle.table.specs.Tables.{path_of}
use Rattle.evaluate.specs.Shown.{expr_in, row_of}
use Rattle.evaluate.proofs.evaluator.Evaluator.+formulas.Given as goal

abbrev pub decreases-formula : goal.decreases-formula
decreases-formula l = 3 * l.node + 1

abbrev pub decreases-formula_of_parts : goal.decreases-formula_of_parts
decreases-formula_of_parts l = 3 * l.node

abbrev pub decreases-quantified_row : goal.decreases-quantified_row
decreases-quantified_row l = 3 * l.body + 2

abbrev pub invariant-quantified_row-atoms : goal.invariant-quantified_row-atoms
invariant-quantified_row-atoms l =
    RowIs l.self.setting.window.instants l.row.values
    (λ i. quantified_value l.quantifier l.atom (expr_table l.self.setting.atoms.count (path_of l.self.setting.table.now) (expr_in l.self.setting.problem.now l.domain) l.variables i)
    (λ a. row_of l.self.setting.atoms.count l.self.setting.window l.self.setting.problem.now l.self.setting.table.now (slice_set l.variables l.variable a) l.body i))
