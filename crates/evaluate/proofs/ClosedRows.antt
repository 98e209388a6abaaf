-- A formula has the same row for variables that are bound to the same below its bound.
use Rattle.std.proofs.Common.{◌≡◌, ℕ, zero, suc, ◌<◌, ◌≤◌, ◌≢◌, List, length, set, sym, refl, ap, ap₂, ◌∙◌, subst, ⊎_elim, arith, get_or-set_other, get_or-set_same, length-set}
use Rattle.std.proofs.Math.Path.{fun_ext}
use Rattle.std.proofs.lemmas.Bool.{cases_lt}
use Rattle.std.specs.Prelude.{slice_index}
use Rattle.lasso.specs.declared.value.Value.{Value}
use Rattle.problem.specs.declared.node.Node.{Node}
use Rattle.problem.specs.declared.node.Node.TheVariants as node
use Rattle.problem.specs.declared.problem.Problem.{Problem}
use Rattle.problem.specs.Sorts.{node_at, bound_at}
use Rattle.problem.specs.Problems.{nodes_in, sorts_in}
use Rattle.meaning.specs.Tuples.{tuples}
use Rattle.meaning.specs.Formulas.{Formula, prefixed, joined, tested, compared, quantified, arity}
use Rattle.meaning.specs.Trees.{no_formula}
use Rattle.meaning.specs.Meaning.{Path}
use Rattle.meaning.specs.Tables.{Table as TableOf, tested_value, compared_value, quantified_value}
use Rattle.meaning.specs.Evaluation.{formula_row}
use Rattle.meaning.specs.Rows.{Row, RowIs, prefixed_row, joined_row}
use Rattle.meaning.proofs.Nodes.{sorted_in, formula_tree_is, tested_at, compared_at, prefixed_at, joined_at, quantified_at}
use Rattle.table.specs.declared.table.Table.{Table}
use Rattle.table.specs.Tables.{path_of}
use Rattle.rows.specs.declared.window.Window.{Window}
use Rattle.evaluate.specs.Shown.{expr_in, formula_at, row_of}
use Rattle.evaluate.proofs.Closed.{Agree, steady_agreed}

-- one variable more is bound to the same
agree_more : (k v a : ℕ) (e d : List ℕ) → v < length e → v < length d → k ≤ suc v → Agree v e d → Agree k (set e v a) (set d v a)
agree_more k v a e d le ld few g x l =
    ⊎_elim
    (λ lt. let ne : x ≢ v = omega arith in get_or-set_other e v x a 0 ne ∙ g x lt ∙ sym (get_or-set_other d v x a 0 ne))
    (λ ge.
    let q : v ≡ x = omega arith in
    subst (λ (y : ℕ). slice_index (set e v a) y ≡ slice_index (set d v a) y) q (get_or-set_same e v a 0 le ∙ sym (get_or-set_same d v a 0 ld)))
    (cases_lt x v)

-- the same row for four variables that agree below k
abbrev Steady : ℕ → ℕ → ℕ → Path → ℕ → Formula → Type 0
Steady n w u π k f = (e d : List ℕ) → length e ≡ 4 → length d ≡ 4 → Agree k e d → (j : ℕ) → formula_row n w u π f e j ≡ formula_row n w u π f d j

module _ (n w u : ℕ) (π : Path) (p : Problem) where
  plain : (i k : ℕ) (x : Formula) → formula_at p i ≡ x → Steady n w u π k x → Steady n w u π k (formula_at p i)
  plain i k x q h = subst (Steady n w u π k) (sym q) h

  unmoved : (i k : ℕ) → formula_at p i ≡ no_formula → Steady n w u π k (formula_at p i)
  unmoved i k q = plain i k no_formula q (λ e d le ld g j. refl)

  steady_step : (i : ℕ) → i < length (nodes_in p) → ((a : ℕ) → a < i → Steady n w u π (bound_at (sorts_in p) a) (formula_at p a)) → (x : Node) → node_at (nodes_in p) i ≡ x → Steady n w u π (bound_at (sorts_in p) i) (formula_at p i)
  steady_step i h q (node.Relation r) m = unmoved i _ (formula_tree_is (sorted_in p) i h (node.Relation r) m)
  steady_step i h q (node.Variable v) m = unmoved i _ (formula_tree_is (sorted_in p) i h (node.Variable v) m)
  steady_step i h q (node.Constant c) m = unmoved i _ (formula_tree_is (sorted_in p) i h (node.Constant c) m)
  steady_step i h q (node.Turned t x) m = unmoved i _ (formula_tree_is (sorted_in p) i h (node.Turned t x) m)
  steady_step i h q (node.Next x) m = unmoved i _ (formula_tree_is (sorted_in p) i h (node.Next x) m)
  steady_step i h q (node.Combined o x y) m = unmoved i _ (formula_tree_is (sorted_in p) i h (node.Combined o x y) m)
  steady_step i h q (node.Tested t x) m =
      let k = tested_at (sorted_in p) i h t x m in
      plain i _ (tested t (expr_in p x)) k.tree
      (λ e d le ld g j.
      ap (λ (f : TableOf). tested_value t (tuples n (arity (expr_in p x))) f) (fun_ext (λ r. steady_agreed n π p x (omega (arith, k.before)) e d (λ z l. g z (omega (arith, k.bound))) j r)))
  steady_step i h q (node.Compared c x y) m =
      let k = compared_at (sorted_in p) i h c x y m in
      plain i _ (compared c (expr_in p x) (expr_in p y)) k.tree
      (λ e d le ld g j.
      ap₂ (λ (f o : TableOf). compared_value c (tuples n (arity (expr_in p x))) f o)
      (fun_ext (λ r. steady_agreed n π p x (omega (arith, k.left)) e d (λ z l. g z (omega (arith, k.bound))) j r))
      (fun_ext (λ r. steady_agreed n π p y (omega (arith, k.right)) e d (λ z l. g z (omega (arith, k.bound))) j r)))
  steady_step i h q (node.Prefixed s x) m =
      let k = prefixed_at (sorted_in p) i h s x m in
      plain i _ (prefixed s (formula_at p x)) k.tree
      (λ e d le ld g j. ap (λ (f : Row). prefixed_row w u s f j) (fun_ext (λ r. q x k.before e d le ld (λ z l. g z (omega (arith, k.bound))) r)))
  steady_step i h q (node.Joined s x y) m =
      let k = joined_at (sorted_in p) i h s x y m in
      plain i _ (joined s (formula_at p x) (formula_at p y)) k.tree
      (λ e d le ld g j.
      ap₂ (λ (f o : Row). joined_row w u s f o j)
      (fun_ext (λ r. q x k.left e d le ld (λ z l. g z (omega (arith, k.bound))) r))
      (fun_ext (λ r. q y k.right e d le ld (λ z l. g z (omega (arith, k.bound))) r)))
  steady_step i h q (node.Quantified t v x y) m =
      let k = quantified_at (sorted_in p) i h t v x y m in
      plain i _ (quantified t v (expr_in p x) (formula_at p y)) k.tree
      (λ e d le ld g j.
      ap₂ (λ (f o : TableOf). quantified_value t n f o)
      (fun_ext (λ r. steady_agreed n π p x (omega (arith, k.domain)) e d (λ z l. g z (omega (arith, k.bound, k.domain_bound))) j r))
      (fun_ext (λ a.
      q y k.body (set e v a) (set d v a) (length-set e v a ∙ le) (length-set d v a ∙ ld)
      (agree_more _ v a e d (omega (arith, k.few)) (omega (arith, k.few)) k.body_bound (λ z l. g z (omega (arith, k.bound)))) j)))

  steady_below : (m i : ℕ) → i < m → i < length (nodes_in p) → Steady n w u π (bound_at (sorts_in p) i) (formula_at p i)
  steady_below zero i l h = absurd (omega arith)
  steady_below (suc m) i l h = steady_step i h (λ a x. steady_below m a (omega arith) (omega arith)) (node_at (nodes_in p) i) refl

-- the row of a formula that uses no variable is one for all variables
pub row_closed :
    (n : ℕ) (w : Window) (p : Problem) (t : Table) (i : ℕ) (d : List ℕ) (row : List Value) → i < length (nodes_in p) → bound_at (sorts_in p) i ≡ 0 → length d ≡ 4 →
    RowIs w.instants row (row_of n w p t d i) → (e : List ℕ) → length e ≡ 4 → RowIs w.instants row (row_of n w p t e i)
row_closed n w p t i d row h z ld is e le j k =
    is j k ∙ steady_below n w.instants w.period (path_of t) p (suc i) i (omega arith) h d e ld le (λ x l. absurd (omega (arith, z, l))) j
