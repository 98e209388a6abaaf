use Rattle.std.proofs.Common.{[], slice_index_or, rules}
use Rattle.lasso.specs.declared.value.Value.TheVariants.{No}
use Rattle.evaluate.specs.Members.{FirstAre}
use Rattle.evaluate.proofs.evaluator.Evaluator.members_of.Goals as goal

pub returns : goal.returns
returns c s l i at a few inside =
    let g = c.args.self.now.setting in
    let h = c.in_each_state.ensures s [] l in
    let first : FirstAre 8 g.atoms.count g.problem.now g.table.now c.args.variables.now c.args.domain s (slice_index_or c.in_each_state.result s []) = search rules in
    first.value i a No at few inside
