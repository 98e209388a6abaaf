-- The value of the whole formula, from its row over the window that its past needs.
use Rattle.std.proofs.Common.{◌≡◌, ℕ, ◌+◌, ◌-◌, ◌<◌, ◌≤◌, List, length, refl, sym, ap, ◌∙◌, subst, arith}
use Rattle.lasso.specs.declared.value.Value.{Value}
use Rattle.lasso.specs.declared.shape.Shape.{Shape}
use Rattle.problem.specs.declared.problem.Problem.{Problem}
use Rattle.problem.specs.Problems.{atoms_in, nodes_in, sorts_in}
use Rattle.meaning.specs.Formulas.{Formula, depth}
use Rattle.meaning.specs.Levels.{Level}
use Rattle.meaning.specs.Meaning.{Reaches, ValueIs}
use Rattle.meaning.specs.NodeLaws.{past_at}
use Rattle.meaning.specs.Trees.{formula_in, no_variable}
use Rattle.meaning.specs.RowLaws.{window}
use Rattle.meaning.specs.Evaluation.{formula_row}
use Rattle.meaning.specs.Shown.{ShownAt}
use Rattle.meaning.specs.Tables.{table_at}
use Rattle.meaning.specs.Rows.{RowIs}
use Rattle.meaning.proofs.Nodes.{sorted_in, tree_depth, past_few}
use Rattle.meaning.proofs.Shown.{shown_value, same_shown}
use Rattle.meaning.proofs.OnLassos.{formula_shows, round_fits}
use Rattle.table.specs.declared.table.Table.{Table}
use Rattle.table.specs.Tables.{value_in, path_of}
use Rattle.rows.specs.declared.window.Window.{Window}
use Rattle.evaluate.specs.declared.setting.Setting.{Setting}
use Rattle.evaluate.specs.Settings.{row_at}
use Rattle.evaluate.specs.Shown.{formula_at, row_of}

pub root_depth : (p : Problem) (i : ℕ) → i + 1 ≡ length (nodes_in p) → depth (formula_at p i) ≡ past_at (sorts_in p) i
root_depth p i h = tree_depth (sorted_in p) i (omega arith)

pub root_few : (p : Problem) (i : ℕ) → i + 1 ≡ length (nodes_in p) → past_at (sorts_in p) i ≤ 4
root_few p i h = past_few (sorted_in p) i (omega arith)

-- the first value of a row over a window that is deep enough
first_value :
    (n : ℕ) (w : Window) (t : Table) (f : Formula) (e : List ℕ) (d : ℕ) (row : List Value) → depth f ≤ d → w.instants ≡ window t.shape.states t.shape.loop_start d →
    w.period ≡ t.shape.states - t.shape.loop_start → RowIs w.instants row (formula_row n w.instants w.period (path_of t) f e) → ValueIs n (path_of t) f e 0 (table_at row 0)
first_value n w t f e d row deep instants period is =
    let k : ℕ = t.shape.states in
    let l : ℕ = t.shape.loop_start in
    let ok : l < k = t.shape.loops in
    let some : 0 < window k l d = omega (arith, round_fits k l d) in
    let A : Level → Type 0 = λ u. Reaches n (path_of t) f e u 0 in
    let s : ShownAt A (formula_row n (window k l d) (k - l) (path_of t) f e 0) = (formula_shows n k l (value_in t) ok d f e deep).value 0 some in
    let here : table_at row 0 ≡ formula_row n w.instants w.period (path_of t) f e 0 = is 0 (omega arith) in
    let there : table_at row 0 ≡ formula_row n (window k l d) (k - l) (path_of t) f e 0 =
    here ∙ ap (λ (x : ℕ). formula_row n x w.period (path_of t) f e 0) instants ∙ ap (λ (x : ℕ). formula_row n (window k l d) x (path_of t) f e 0) period in
    shown_value A (table_at row 0) (same_shown there s)

-- at the last node it is the value of the whole formula
pub whole_value :
    (n : ℕ) (w : Window) (p : Problem) (t : Table) (e : List ℕ) (i : ℕ) (row : List Value) (v : Value) → n ≡ length (atoms_in p) → e ≡ no_variable →
    i + 1 ≡ length (nodes_in p) → w.instants ≡ window t.shape.states t.shape.loop_start (past_at (sorts_in p) i) → w.period ≡ t.shape.states - t.shape.loop_start →
    RowIs w.instants row (row_of n w p t e i) → v ≡ table_at row 0 → ValueIs (length (atoms_in p)) (path_of t) (formula_in p) no_variable 0 v
unfolding formula_in
whole_value n w p t e i row v en ee last instants period is ev =
    let deep : depth (formula_at p i) ≤ past_at (sorts_in p) i = omega (arith, root_depth p i last) in
    let s = first_value n w t (formula_at p i) e (past_at (sorts_in p) i) row deep instants period is in
    let a = subst (λ (x : Value). ValueIs n (path_of t) (formula_at p i) e 0 x) (sym ev) s in
    let b = subst (λ (x : ℕ). ValueIs x (path_of t) (formula_at p i) e 0 v) en a in
    let c = subst (λ (x : List ℕ). ValueIs (length (atoms_in p)) (path_of t) (formula_at p i) x 0 v) ee b in
    let r : i ≡ length (nodes_in p) - 1 = omega arith in
    subst (λ (x : ℕ). ValueIs (length (atoms_in p)) (path_of t) (formula_at p x) no_variable 0 v) r c

-- by what it is evaluated by
pub setting_value :
    (s : Setting) (p : Problem) (t : Table) (i : ℕ) (row : List Value) → s.problem.now ≡ p → s.table.now ≡ t → i + 1 ≡ length (nodes_in p) →
    RowIs s.window.instants row (row_at s no_variable i) → ValueIs (length (atoms_in p)) (path_of t) (formula_in p) no_variable 0 (table_at row 0)
setting_value s p t i row ep et last is =
    let own : Problem = s.problem.now in
    let shape : Shape = s.table.now.shape in
    let end : i + 1 ≡ length (nodes_in own) = subst (λ (x : Problem). i + 1 ≡ length (nodes_in x)) (sym ep) last in
    let e : length (nodes_in own) - 1 ≡ i = omega arith in
    let deep : s.window.instants ≡ window shape.states shape.loop_start (past_at (sorts_in own) i) =
    s.deep ∙ ap (λ (x : ℕ). window shape.states shape.loop_start (past_at (sorts_in own) x)) e in
    let v = whole_value s.atoms.count s.window own s.table.now no_variable i row (table_at row 0) s.counted refl end deep s.again is refl in
    let u = subst (λ (x : Problem). ValueIs (length (atoms_in x)) (path_of s.table.now) (formula_in x) no_variable 0 (table_at row 0)) ep v in
    subst (λ (x : Table). ValueIs (length (atoms_in p)) (path_of x) (formula_in p) no_variable 0 (table_at row 0)) et u
