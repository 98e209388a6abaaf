use Rattle.std.proofs.Common.{rules, tests}
use Rattle.known.proofs.Places.{against_decided}
use Rattle.known.proofs.told.Told.against_bounds.Goals as goal

pub returns : goal.returns
returns c = against_decided c.args.self.now.problem.now c.args.self.now.table.now c.args.state.0 c.args.place _ c.bounds.result _ c.value-told.ensures.value c.bounds.ensures c.is_some_and.ensures (λ b k. search (rules, tests))
