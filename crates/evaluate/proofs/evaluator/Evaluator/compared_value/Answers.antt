use Rattle.evaluate.proofs.Spread.{compared_value_is}
use Rattle.evaluate.proofs.evaluator.Evaluator.compared_value.Goals as goal

pub returns : goal.returns
returns c =
    let g = c.args.self.now.setting in
    record {
      value = compared_value_is g.atoms.count g.problem.now g.table.now c.args.variables.now c.args.state.0 c.compared.result c.args.comparison c.args.left c.args.right
          c.expression-first.result c.expression-second.result c.expression-first.ensures c.expression-second.ensures c.requires.alike c.compared.ensures;
    }
