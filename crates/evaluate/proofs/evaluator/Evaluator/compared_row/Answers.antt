use Rattle.std.proofs.Common.{rules}
use Rattle.lasso.specs.declared.value.Value.TheVariants.{No}
use Rattle.meaning.specs.Tables.{compared_value}
use Rattle.meaning.specs.Tuples.{tuples}
use Rattle.meaning.specs.Formulas.{arity}
use Rattle.meaning.specs.Rows.{Row}
use Rattle.evaluate.specs.Shown.{expr_in}
use Rattle.evaluate.specs.Settings.{table_of_node}
use Rattle.evaluate.proofs.Spread.{spread_is}
use Rattle.evaluate.proofs.evaluator.Evaluator.compared_row.Goals as goal

pub returns : goal.returns
returns c =
    let g = c.args.self.now.setting in
    let f : Row = λ i. compared_value c.args.comparison (tuples g.atoms.count (arity (expr_in g.problem.now c.args.left))) (table_of_node g c.args.variables.now c.args.left i) (table_of_node g c.args.variables.now c.args.right i) in
    spread_is g.table.now c.shape.result g.window.instants c.in_each_state-values.result c.spread.result.values f c.shape.ensures.value
    (λ s l. let h = c.in_each_state-values.ensures s No l in search rules) c.spread.ensures
