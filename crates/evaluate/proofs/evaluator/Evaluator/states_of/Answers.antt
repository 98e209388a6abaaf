use Rattle.std.proofs.Common.{ap, arith}
use Rattle.lasso.specs.declared.shape.Shape.{Shape}
use Rattle.evaluate.proofs.Keeps.{states_are}
use Rattle.evaluate.proofs.evaluator.Evaluator.states_of.Goals as goal

pub returns : goal.returns
returns g c =
    let s = c.args.self.now.setting in
    let of = c.requires.closed in
    let end = ap (λ (x : Shape). x.states) c.shape.ensures.value in
    states_are s.atoms.count s.problem.now s.table.now c.args.closed.node (record { arity = c.args.closed.arity; values = c.states.values }) of.there of.expression of.closed of.arity c.requires.room
    (λ i beyond l. c.states.invariant.1 i beyond (omega (arith, l, end, c.states-s-end.ensures.value, c.states-test.false)))
