use Rattle.std.proofs.Common.{rules, tests}
use Rattle.known.proofs.Earlier.{in_decided}
use Rattle.known.proofs.told.Told.opposed_in.Goals as goal

pub returns : goal.returns
returns c = in_decided c.args.self.now.table.now c.args.place c.args.value _ _ c.any.ensures.ran (λ x q k. search (rules, tests)) (λ x q k. search (rules, tests))
