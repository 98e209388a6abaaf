use Rattle.std.proofs.Common.{◌≡◌, sym, ap, ◌∙◌, rules}
use Rattle.lasso.specs.declared.value.Value.TheVariants.{No}
use Rattle.lasso.specs.Lassos.{state_at}
use Rattle.meaning.specs.Rows.{Row}
use Rattle.meaning.specs.Tables.{table_at}
use Rattle.evaluate.specs.Members.{member_at}
use Rattle.evaluate.proofs.Spread.{spread_is}
use Rattle.evaluate.proofs.evaluator.Evaluator.member_row.Goals as goal

pub returns : goal.returns
returns c =
    let g = c.args.self.now.setting in
    let f : Row = λ i. member_at c.args.members.now (state_at g.table.now.shape.states g.table.now.shape.loop_start i) c.args.atom in
    spread_is g.table.now c.shape.result g.window.instants c.in_each_state-values.result c.spread.result.values f c.shape.ensures.value
    (λ s l.
    let h = c.in_each_state-values.ensures s No l in
    let e : table_at c.in_each_state-values.result s ≡ member_at c.args.members.now s c.args.atom = search rules in
    record { value = λ i at. e ∙ ap (λ z. member_at c.args.members.now z c.args.atom) (sym at) })
    c.spread.ensures
