use Rattle.std.proofs.Common.{◌≡◌, ℕ, List, set, subst, arith}
use Rattle.meaning.specs.Tables.{Table as TableOf, quantified_value}
use Rattle.meaning.specs.Expressions.{expr_table}
use Rattle.meaning.specs.Rows.{Row, RowIs}
use Rattle.table.specs.Tables.{path_of}
use Rattle.evaluate.specs.Shown.{expr_in, row_of}
use Rattle.meaning.proofs.Nodes.{sorted_in, prefixed_at, joined_at, quantified_at}
use Rattle.evaluate.proofs.Gathers.{no_atom, atom_more, no_row}
use Rattle.evaluate.proofs.Spread.{member_is}
use Rattle.evaluate.proofs.Formulas.{no_formula_is, tested_is, compared_is, quantified_is, prefixed_is, joined_is, alike, of_atoms, none_is_no_formula}
use Rattle.evaluate.proofs.evaluator.Evaluator.+formulas.Goals as goal

pub formula_of_parts-compared_row-requires-clause-alike : goal.formula_of_parts-compared_row-requires-clause-alike
formula_of_parts-compared_row-requires-clause-alike t c =
    alike c.args.self.now.setting.problem.now c.args.node c.requires c.in-Compared.comparison c.in-Compared.left c.in-Compared.right c.in-Compared.ensures

pub formula_of_parts-formula-requires : goal.formula_of_parts-formula-requires
formula_of_parts-formula-requires t c =
    let k = prefixed_at (sorted_in c.args.self.now.setting.problem.now) c.args.node c.requires c.in-Prefixed.prefix c.in-Prefixed.part c.in-Prefixed.ensures in
    (omega (arith, k.before), omega (arith, k.before))

pub formula_of_parts-formula-left-requires : goal.formula_of_parts-formula-left-requires
formula_of_parts-formula-left-requires t c =
    let k = joined_at (sorted_in c.args.self.now.setting.problem.now) c.args.node c.requires c.in-Joined.word c.in-Joined.left c.in-Joined.right c.in-Joined.ensures in
    (omega (arith, k.left), omega (arith, k.left))

pub formula_of_parts-formula-right-requires : goal.formula_of_parts-formula-right-requires
formula_of_parts-formula-right-requires t c =
    let k = joined_at (sorted_in c.args.self.now.setting.problem.now) c.args.node c.requires c.in-Joined.word c.in-Joined.left c.in-Joined.right c.in-Joined.ensures in
    (omega (arith, k.right), omega (arith, k.right))

pub formula_of_parts-quantified_row-requires : goal.formula_of_parts-quantified_row-requires
formula_of_parts-quantified_row-requires t c =
    let p = c.args.self.now.setting.problem.now in
    let q = c.in-Quantified in
    let k = quantified_at (sorted_in p) c.args.node c.requires q.quantifier q.variable q.domain q.body q.ensures in
    (omega (arith, k.body), (omega (arith, k.domain), (omega (arith, k.body), of_atoms p c.args.node c.requires q.quantifier q.variable q.domain q.body q.ensures)))

pub formula_of_parts-returns-in-Tested : goal.formula_of_parts-returns-in-Tested
formula_of_parts-returns-in-Tested t c =
    tested_is c.args.self.now.setting.atoms.count c.args.self.now.setting.window c.args.self.now.setting.problem.now c.args.self.now.setting.table.now c.args.variables.now c.args.node c.requires c.tested_row.result.values
    c.in-Tested.test c.in-Tested.part c.in-Tested.ensures c.tested_row.ensures

pub formula_of_parts-returns-in-Compared : goal.formula_of_parts-returns-in-Compared
formula_of_parts-returns-in-Compared t c =
    compared_is c.args.self.now.setting.atoms.count c.args.self.now.setting.window c.args.self.now.setting.problem.now c.args.self.now.setting.table.now c.args.variables.now c.args.node c.requires c.compared_row.result.values
    c.in-Compared.comparison c.in-Compared.left c.in-Compared.right c.in-Compared.ensures c.compared_row.ensures

pub formula_of_parts-returns-in-Prefixed : goal.formula_of_parts-returns-in-Prefixed
formula_of_parts-returns-in-Prefixed t c =
    prefixed_is c.args.self.now.setting.atoms.count c.args.self.now.setting.window c.args.self.now.setting.problem.now c.args.self.now.setting.table.now c.args.variables.now c.args.node c.requires c.prefixed.result.values
    c.in-Prefixed.prefix c.in-Prefixed.part c.formula.result.values c.in-Prefixed.ensures c.formula.ensures c.prefixed.ensures

pub formula_of_parts-returns-in-Joined : goal.formula_of_parts-returns-in-Joined
formula_of_parts-returns-in-Joined t c =
    joined_is c.args.self.now.setting.atoms.count c.args.self.now.setting.window c.args.self.now.setting.problem.now c.args.self.now.setting.table.now c.args.variables.now c.args.node c.requires c.joined.result.values
    c.in-Joined.word c.in-Joined.left c.in-Joined.right c.formula-left.result.values c.formula-right.result.values c.in-Joined.ensures
    c.formula-left.ensures c.formula-right.ensures c.joined.ensures

pub formula_of_parts-returns-in-Quantified : goal.formula_of_parts-returns-in-Quantified
formula_of_parts-returns-in-Quantified t c =
    quantified_is c.args.self.now.setting.atoms.count c.args.self.now.setting.window c.args.self.now.setting.problem.now c.args.self.now.setting.table.now c.args.variables.now c.args.node c.requires c.quantified_row.result.values
    c.in-Quantified.quantifier c.in-Quantified.variable c.in-Quantified.domain c.in-Quantified.body c.in-Quantified.ensures c.quantified_row.ensures

pub formula_of_parts-returns-in_default : goal.formula_of_parts-returns-in_default
formula_of_parts-returns-in_default t c =
    let d = c.in_default in
    no_formula_is c.args.self.now.setting.atoms.count c.args.self.now.setting.window c.args.self.now.setting.problem.now c.args.self.now.setting.table.now c.args.variables.now c.args.node c.requires c.blank.result.values
    (none_is_no_formula c.args.self.now.setting.problem.now c.args.node c.requires c.node_at.result c.node_at.ensures d.not-Tested d.not-Compared d.not-Prefixed d.not-Joined d.not-Quantified)
    (no_row c.args.self.now.setting.window.instants c.blank.result.values c.args.self.now.setting.window.few c.blank.ensures)

pub quantified_row-atoms-init : goal.quantified_row-atoms-init
quantified_row-atoms-init t c =
    let d : ℕ → TableOf = λ i. expr_table c.args.self.now.setting.atoms.count (path_of c.args.self.now.setting.table.now) (expr_in c.args.self.now.setting.problem.now c.args.domain) c.args.variables.now i in
    let f : ℕ → Row = λ a. row_of c.args.self.now.setting.atoms.count c.args.self.now.setting.window c.args.self.now.setting.problem.now c.args.self.now.setting.table.now (set c.args.variables.now c.args.variable a) c.args.body in
    no_atom c.args.quantifier c.args.self.now.setting.window.instants c.of_none-row.result.values d f c.of_none-row.ensures

pub quantified_row-atoms-preserved : goal.quantified_row-atoms-preserved
quantified_row-atoms-preserved t c =
    let d : ℕ → TableOf = λ i. expr_table c.args.self.now.setting.atoms.count (path_of c.args.self.now.setting.table.now) (expr_in c.args.self.now.setting.problem.now c.args.domain) c.args.variables.now i in
    let f : ℕ → Row = λ a. row_of c.args.self.now.setting.atoms.count c.args.self.now.setting.window c.args.self.now.setting.problem.now c.args.self.now.setting.table.now (set c.args.variables.now c.args.variable a) c.args.body in
    let body : RowIs c.args.self.now.setting.window.instants c.formula-value.result.values (f c.atoms.atom) =
    subst (λ (e : List ℕ). RowIs c.args.self.now.setting.window.instants c.formula-value.result.values (row_of c.args.self.now.setting.atoms.count c.args.self.now.setting.window c.args.self.now.setting.problem.now c.args.self.now.setting.table.now e c.args.body))
    c.bound-inner.ensures c.formula-value.ensures in
    let member = member_is c.args.self.now.setting.atoms.count c.args.self.now.setting.problem.now c.args.self.now.setting.table.now c.args.variables.now c.args.domain c.args.self.now.setting.window.instants c.atoms.atom c.members_of-members.result
    c.member_row-member.result.values c.args.self.now.setting.atoms.few c.requires.atoms (omega arith) c.members_of-members.ensures c.member_row-member.ensures in
    atom_more c.args.quantifier c.args.self.now.setting.window.instants c.atoms.atom c.atoms.row.values c.member_row-member.result.values c.formula-value.result.values c.gathered-row.result.values d f
    c.atoms.invariant member body c.gathered-row.ensures

pub quantified_row-returns : goal.quantified_row-returns
quantified_row-returns t c =
    let d : ℕ → TableOf = λ i. expr_table c.args.self.now.setting.atoms.count (path_of c.args.self.now.setting.table.now) (expr_in c.args.self.now.setting.problem.now c.args.domain) c.args.variables.now i in
    let f : ℕ → Row = λ a. row_of c.args.self.now.setting.atoms.count c.args.self.now.setting.window c.args.self.now.setting.problem.now c.args.self.now.setting.table.now (set c.args.variables.now c.args.variable a) c.args.body in
    let e : c.atoms.atom ≡ c.args.self.now.setting.atoms.count = omega arith in
    subst (λ (m : ℕ). RowIs c.args.self.now.setting.window.instants c.atoms.row.values (λ i. quantified_value c.args.quantifier m (d i) (λ a. f a i))) e c.atoms.invariant
