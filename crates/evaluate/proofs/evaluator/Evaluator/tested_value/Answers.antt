use Rattle.evaluate.proofs.Spread.{tested_value_is}
use Rattle.evaluate.proofs.evaluator.Evaluator.tested_value.Goals as goal

pub returns : goal.returns
returns c =
    let g = c.args.self.now.setting in
    record { value = tested_value_is g.atoms.count g.problem.now g.table.now c.args.variables.now c.args.state.0 c.tested.result c.args.test c.args.part c.expression.result c.expression.ensures c.tested.ensures }
