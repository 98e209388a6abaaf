use Rattle.std.proofs.Common.{◌≡◌, ap, arith}
use Rattle.lasso.specs.declared.shape.Shape.{Shape}
use Rattle.known.specs.States.{StatesKnown}
use Rattle.known.proofs.Knowledge.{is_known}
use Rattle.known.proofs.knowing.known_table.Goals as goal

pub returns-clause-known : goal.returns-clause-known
returns-clause-known c = λ m copied fits.
    let t = c.args.told.now in
    let k = c.states.known in
    let e : c.shape.result.states ≡ t.shape.states = ap (λ (x : Shape). x.states) c.shape.ensures.value in
    let all : StatesKnown c.args.problem.now t t.shape.states k = record {
      places_are = c.states.invariant.places_are;
      shape_is = c.states.invariant.shape_is;
      value = λ s q h. c.states.invariant.value s q (omega arith);
    } in
    is_known c.args.problem.now m t k copied fits all
