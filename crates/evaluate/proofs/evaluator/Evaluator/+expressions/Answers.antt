use Rattle.std.proofs.Common.{◌≡◌, ◌<◌, subst}
use Rattle.lasso.specs.declared.shape.Shape.{Shape}
use Rattle.lasso.specs.Lassos.{following}
use Rattle.problem.specs.declared.node.Constant.TheVariants as constants
use Rattle.evaluate.proofs.Expressions.{relation_is, variable_is, constant_is, constant_node, turned_is, next_is, combined_is, no_expression}
use Rattle.evaluate.proofs.evaluator.Evaluator.+expressions.Goals as goal

pub expression_of_parts-returns-in-Relation : goal.expression_of_parts-returns-in-Relation
expression_of_parts-returns-in-Relation t c =
    relation_is c.args.self.now.setting.atoms.count c.args.self.now.setting.problem.now c.args.self.now.setting.table.now c.args.variables.now c.args.node c.args.state.0 c.requires c.relation.result
    c.in-Relation.relation c.first_place.result _ c.row.result.now c.in-Relation.ensures c.first_place.ensures c.arity_of.ensures c.row.ensures c.relation.ensures

pub expression_of_parts-returns-in-Variable : goal.expression_of_parts-returns-in-Variable
expression_of_parts-returns-in-Variable t c =
    variable_is c.args.self.now.setting.atoms.count c.args.self.now.setting.problem.now c.args.self.now.setting.table.now c.args.variables.now c.args.node c.args.state.0 c.requires c.variable.result
    c.in-Variable.variable c.atom_of.result c.in-Variable.ensures c.atom_of.ensures c.variable.ensures

pub expression_of_parts-returns-in-Constant : goal.expression_of_parts-returns-in-Constant
expression_of_parts-returns-in-Constant t c =
    constant_is c.args.self.now.setting.atoms.count c.args.self.now.setting.problem.now c.args.self.now.setting.table.now c.args.variables.now c.args.node c.args.state.0 c.requires c.constant.result
    c.in-Constant.constant (constant_node c.args.self.now.setting.problem.now c.args.node c.requires c.in-Constant.constant c.in-Constant.ensures) c.constant.ensures

pub expression_of_parts-returns-in-Turned : goal.expression_of_parts-returns-in-Turned
expression_of_parts-returns-in-Turned t c =
    turned_is c.args.self.now.setting.atoms.count c.args.self.now.setting.problem.now c.args.self.now.setting.table.now c.args.variables.now c.args.node c.args.state.0 c.requires c.turned.result
    c.in-Turned.turn c.in-Turned.part c.expression.result c.in-Turned.ensures c.expression.ensures c.turned.ensures.pairs

pub expression_of_parts-returns-in-Next : goal.expression_of_parts-returns-in-Next
expression_of_parts-returns-in-Next m c =
    let t = c.args.self.now.setting.table.now in
    let e : c.args.state.0 < t.shape.states → c.next_state-next.result.0 ≡ following t.shape.states t.shape.loop_start c.args.state.0 =
    subst (λ (x : Shape). c.args.state.0 < x.states → c.next_state-next.result.0 ≡ following x.states x.loop_start c.args.state.0) c.shape.ensures.value c.next_state-next.ensures in
    next_is c.args.self.now.setting.atoms.count c.args.self.now.setting.problem.now c.args.self.now.setting.table.now c.args.variables.now c.args.node c.args.state.0 c.requires c.expression-in-Next.result
    c.in-Next.part c.next_state-next.result.0 c.in-Next.ensures e c.expression-in-Next.ensures

pub expression_of_parts-returns-in-Combined : goal.expression_of_parts-returns-in-Combined
expression_of_parts-returns-in-Combined t c =
    combined_is c.args.self.now.setting.atoms.count c.args.self.now.setting.problem.now c.args.self.now.setting.table.now c.args.variables.now c.args.node c.args.state.0 c.requires c.combined.result
    c.in-Combined.operator c.in-Combined.left c.in-Combined.right c.expression-left.result c.expression-right.result c.in-Combined.ensures
    c.expression-left.ensures c.expression-right.ensures c.combined.ensures.suited

pub expression_of_parts-returns-in_default : goal.expression_of_parts-returns-in_default
expression_of_parts-returns-in_default t c =
    let d = c.in_default in
    constant_is c.args.self.now.setting.atoms.count c.args.self.now.setting.problem.now c.args.self.now.setting.table.now c.args.variables.now c.args.node c.args.state.0 c.requires c.constant-in_default.result
    constants.None (no_expression c.args.self.now.setting.problem.now c.args.node c.requires c.node_at.result c.node_at.ensures d.not-Relation d.not-Variable d.not-Constant d.not-Turned d.not-Next d.not-Combined) c.constant-in_default.ensures
