use Rattle.evaluate.proofs.Keeps.{kept_is}
use Rattle.evaluate.proofs.evaluator.Evaluator.kept_expression.Goals as goal

pub returns-in-Some : goal.returns-in-Some
returns-in-Some c =
    let self = c.args.self.now in
    let g = self.setting in
    kept_is g.atoms.count g.problem.now g.table.now c.args.node c.in-Some.states.now c.requires c.args.state.0 c.tuples.result (self.known c.args.node c.in-Some.states.now c.in-Some.ensures) c.tuples.ensures

pub returns-in_ok-get-in-None : goal.returns-in_ok-get-in-None
returns-in_ok-get-in-None c =
    let self = c.args.self.now in
    let g = self.setting in
    let states = c.in_ok-get-in-None.field-0.now in
    let here = c.in_ok-get-in-None.ensures in
    kept_is g.atoms.count g.problem.now g.table.now c.args.node states c.requires c.args.state.0 c.tuples-in-None.result (self.listed here.0 (record { node = c.args.node; item = states }) here.1) c.tuples-in-None.ensures
