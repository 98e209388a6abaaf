-- An expression has the same values for variables that are bound to the same below its bound.
use Rattle.std.proofs.Common.{◌≡◌, ℕ, zero, suc, ◌+◌, ◌<◌, List, length, sym, refl, ap, ap₂, subst, arith}
use Rattle.std.proofs.Math.Path.{fun_ext}
use Rattle.std.specs.Prelude.{slice_index}
use Rattle.problem.specs.declared.node.Node.{Node}
use Rattle.problem.specs.declared.node.Node.TheVariants as node
use Rattle.problem.specs.declared.node.Constant.{Constant}
use Rattle.problem.specs.declared.node.Constant.TheVariants as constants
use Rattle.problem.specs.declared.problem.Problem.{Problem}
use Rattle.problem.specs.Sorts.{node_at, bound_at}
use Rattle.problem.specs.Problems.{nodes_in, sorts_in}
use Rattle.meaning.specs.Formulas.{Expr, variable, constant, turned, next, combined, arity}
use Rattle.meaning.specs.Meaning.{Path}
use Rattle.meaning.specs.Tables.{Table as TableOf, variable_table, turned_table, combined_table}
use Rattle.meaning.specs.Expressions.{expr_table}
use Rattle.meaning.proofs.Nodes.{sorted_in, expr_tree_is, variable_at, turned_at, next_at, combined_at}
use Rattle.evaluate.specs.Shown.{expr_in}

-- the first k variables are bound to the same
abbrev pub Agree : ℕ → List ℕ → List ℕ → Type 0
Agree k e d = (x : ℕ) → x < k → slice_index e x ≡ slice_index d x

-- the same values for variables that agree below k
abbrev pub Steady : ℕ → Path → ℕ → Expr → Type 0
Steady n π k x = (e d : List ℕ) → Agree k e d → (i r : ℕ) → expr_table n π x e i r ≡ expr_table n π x d i r

module _ (n : ℕ) (π : Path) (p : Problem) where
  plain : (i k : ℕ) (x : Expr) → expr_in p i ≡ x → Steady n π k x → Steady n π k (expr_in p i)
  plain i k x q h = subst (Steady n π k) (sym q) h

  unmoved : (i k : ℕ) (c : Constant) → expr_in p i ≡ constant c → Steady n π k (expr_in p i)
  unmoved i k c q = plain i k (constant c) q (λ a b g j r. refl)

  steady_step : (i : ℕ) → i < length (nodes_in p) → ((a : ℕ) → a < i → Steady n π (bound_at (sorts_in p) a) (expr_in p a)) → (x : Node) → node_at (nodes_in p) i ≡ x → Steady n π (bound_at (sorts_in p) i) (expr_in p i)
  steady_step i h q (node.Relation r) e = plain i _ _ (expr_tree_is (sorted_in p) i h (node.Relation r) e) (λ a b g j k. refl)
  steady_step i h q (node.Variable v) e =
      let k = variable_at (sorted_in p) i h v e in
      plain i _ (variable v) k.tree (λ a b g j r. ap (λ (z : ℕ). variable_table z r) (g v (omega (arith, k.bound))))
  steady_step i h q (node.Constant c) e = unmoved i _ c (expr_tree_is (sorted_in p) i h (node.Constant c) e)
  steady_step i h q (node.Turned u x) e =
      let k = turned_at (sorted_in p) i h u x e in
      plain i _ (turned u (expr_in p x)) k.tree (λ a b g j r. ap (λ (f : TableOf). turned_table u n f r) (fun_ext (λ y. q x k.before a b (λ z l. g z (omega (arith, k.bound))) j y)))
  steady_step i h q (node.Next x) e =
      let k = next_at (sorted_in p) i h x e in
      plain i _ (next (expr_in p x)) k.tree (λ a b g j r. q x k.before a b (λ z l. g z (omega (arith, k.bound))) (j + 1) r)
  steady_step i h q (node.Combined o x y) e =
      let k = combined_at (sorted_in p) i h o x y e in
      plain i _ (combined o (expr_in p x) (expr_in p y)) k.tree
      (λ a b g j r.
      ap₂ (λ (f u : TableOf). combined_table o n (arity (expr_in p y)) f u r)
      (fun_ext (λ w. q x k.left a b (λ z l. g z (omega (arith, k.bound))) j w))
      (fun_ext (λ w. q y k.right a b (λ z l. g z (omega (arith, k.bound))) j w)))
  steady_step i h q (node.Tested t x) e = unmoved i _ constants.None (expr_tree_is (sorted_in p) i h (node.Tested t x) e)
  steady_step i h q (node.Compared c x y) e = unmoved i _ constants.None (expr_tree_is (sorted_in p) i h (node.Compared c x y) e)
  steady_step i h q (node.Prefixed w x) e = unmoved i _ constants.None (expr_tree_is (sorted_in p) i h (node.Prefixed w x) e)
  steady_step i h q (node.Joined w x y) e = unmoved i _ constants.None (expr_tree_is (sorted_in p) i h (node.Joined w x y) e)
  steady_step i h q (node.Quantified t v x y) e = unmoved i _ constants.None (expr_tree_is (sorted_in p) i h (node.Quantified t v x y) e)

  steady_below : (m i : ℕ) → i < m → i < length (nodes_in p) → Steady n π (bound_at (sorts_in p) i) (expr_in p i)
  steady_below zero i l h = absurd (omega arith)
  steady_below (suc m) i l h = steady_step i h (λ a x. steady_below m a (omega arith) (omega arith)) (node_at (nodes_in p) i) refl

  pub steady_agreed : (i : ℕ) → i < length (nodes_in p) → Steady n π (bound_at (sorts_in p) i) (expr_in p i)
  steady_agreed i h = steady_below (suc i) i (omega arith) h

  -- one that uses no variable has the same values for all
  pub steady : (i : ℕ) → i < length (nodes_in p) → bound_at (sorts_in p) i ≡ 0 → (e d : List ℕ) (j r : ℕ) → expr_table n π (expr_in p i) e j r ≡ expr_table n π (expr_in p i) d j r
  steady i h z e d j r = steady_agreed i h e d (λ x l. absurd (omega (arith, z, l))) j r
