-- The set of tuples of each kind of expression, from those of its parts.
use Rattle.std.proofs.Common.{◌≡◌, ℕ, ◌+◌, ◌<◌, true, List, length, sym, refl, ap, ap₂, ◌∙◌, subst, add-one, arith, lt-ltb}
use Rattle.std.specs.Cmp.Derive.{both_true}
use Rattle.std.specs.Prelude.{slice_index, slice_index_or}
use Rattle.lasso.specs.declared.value.Value.{Value}
use Rattle.lasso.specs.declared.value.Value.TheVariants.{Open}
use Rattle.lasso.specs.Lassos.{state_at, following}
use Rattle.lasso.proofs.Folds.{state_at_below}
use Rattle.problem.specs.declared.node.Node.{Node}
use Rattle.problem.specs.declared.node.Node.TheVariants as node
use Rattle.problem.specs.declared.node.Constant.{Constant}
use Rattle.problem.specs.declared.node.Turn.{Turn}
use Rattle.problem.specs.declared.node.Operator.{Operator}
use Rattle.problem.specs.declared.problem.Problem.{Problem}
use Rattle.problem.specs.Sorts.{node_at, arity_at, constant_arity, outcome, suits}
use Rattle.problem.specs.Problems.{nodes_in, sorts_in, sizes_in}
use Rattle.meaning.specs.Tuples.{tuples}
use Rattle.meaning.specs.Formulas.{Expr, variable, constant, turned, next, combined, arity}
use Rattle.meaning.specs.Trees.{places_in, relation_tree, no_expr}
use Rattle.meaning.specs.Expressions.{expr_table}
use Rattle.meaning.specs.Tables.{Table as TableOf, constant_table, variable_table, turned_table, combined_table}
use Rattle.meaning.specs.Shown.{Suited}
use Rattle.meaning.proofs.Nodes.{sorted_in, expr_tree_is, tree_arity, turned_at, next_at, combined_at}
use Rattle.meaning.proofs.TableLaws.{suited}
use Rattle.table.specs.declared.table.Table.{Table}
use Rattle.table.specs.Tables.{value_in, path_of}
use Rattle.places.specs.Places.{before}
use Rattle.tuples.specs.declared.tuples.Tuples.{Tuples}
use Rattle.tuples.specs.Tabled.{table_of, Tabled}
use Rattle.evaluate.specs.Shown.{expr_in, ExpressionIs}
use Rattle.evaluate.proofs.Same.{Same, turned_same, combined_same}

-- a set of tuples that has an expression's table at each instant of a state
abbrev pub Stated : ℕ → Table → List ℕ → Expr → ℕ → Tuples → Type 0
Stated n t e x s r = (r.arity ≡ arity x) × ((i : ℕ) → state_at t.shape.states t.shape.loop_start i ≡ s → Same (tuples n (arity x)) (table_of r) (expr_table n (path_of t) x e i))

-- which is that of a node with this tree
pub stated_is : (n : ℕ) (p : Problem) (t : Table) (e : List ℕ) (i s : ℕ) (x : Expr) (r : Tuples) → expr_in p i ≡ x → Stated n t e x s r → ExpressionIs n p t e i s r
stated_is n p t e i s x r q h =
    let g : Stated n t e (expr_in p i) s r = subst (λ (y : Expr). Stated n t e y s r) (sym q) h in
    record { atoms = g.0; value = g.1 }

fit : (o : Operator) (a b : ℕ) → 0 < a → 0 < b → suits o a b ≡ true → Suited o a b
fit o a b h m e = suited o a b (both_true (lt-ltb 0 a h) (both_true (lt-ltb 0 b m) e))

renamed :
    (o : Operator) (n x y a b : ℕ) (f g : TableOf) (r : Tuples) → x ≡ a → y ≡ b → suits o a b ≡ true →
    (suits o x y ≡ true → Tabled n (outcome o x y) (combined_table o n y f g) r) → Tabled n (outcome o a b) (combined_table o n b f g) r
renamed o n x y a b f g r p q fits h =
    let first = subst (λ (z : ℕ). suits o z y ≡ true → Tabled n (outcome o z y) (combined_table o n y f g) r) p h in
    let second = subst (λ (z : ℕ). suits o a z ≡ true → Tabled n (outcome o a z) (combined_table o n z f g) r) q first in
    second fits

module _ (n : ℕ) (p : Problem) (t : Table) (e : List ℕ) (i s : ℕ) (there : i < length (nodes_in p)) (r : Tuples) where
  pub relation_is : (k b a : ℕ) (row : List Value) → node_at (nodes_in p) i ≡ node.Relation k → b ≡ before (sizes_in p) k → a ≡ slice_index (places_in p).arities k → ((q : ℕ) → slice_index_or row q Open ≡ value_in t s q) → Tabled n a (λ q. slice_index_or row (b + q) Open) r → ExpressionIs n p t e i s r
  relation_is k b a row h eb ea values tabled =
      stated_is n p t e i s (relation_tree (places_in p) k) r (expr_tree_is (sorted_in p) i there (node.Relation k) h) (
        tabled.0 ∙ ea,
        λ j at q l.
            let m : q < tuples n a = subst (λ (z : ℕ). q < tuples n z) (sym ea) l in
            tabled.1 q m ∙ values (b + q) ∙ ap (λ (z : ℕ). value_in t s (z + q)) eb ∙ ap (λ (z : ℕ). value_in t z (before (sizes_in p) k + q)) (sym at),
      )

  pub variable_is : (v a : ℕ) → node_at (nodes_in p) i ≡ node.Variable v → a ≡ slice_index e v → Tabled n 1 (variable_table a) r → ExpressionIs n p t e i s r
  variable_is v a h ea tabled =
      stated_is n p t e i s (variable v) r (expr_tree_is (sorted_in p) i there (node.Variable v) h)
      (tabled.0, λ j at q l. tabled.1 q l ∙ ap (λ (z : ℕ). variable_table z q) ea)

  pub constant_is : (c : Constant) → expr_in p i ≡ constant c → Tabled n (constant_arity c) (constant_table n c) r → ExpressionIs n p t e i s r
  constant_is c h tabled = stated_is n p t e i s (constant c) r h (tabled.0, λ j at q l. tabled.1 q l)

  pub turned_is : (u : Turn) (a : ℕ) (x : Tuples) → node_at (nodes_in p) i ≡ node.Turned u a → ExpressionIs n p t e a s x → (x.arity ≡ 2 → Tabled n 2 (turned_table u n (table_of x)) r) → ExpressionIs n p t e i s r
  turned_is u a x h part tabled =
      let k = turned_at (sorted_in p) i there u a h in
      let two : arity (expr_in p a) ≡ 2 = tree_arity (sorted_in p) a (omega arith) k.some ∙ k.pairs in
      let z = tabled (part.atoms ∙ two) in
      stated_is n p t e i s (turned u (expr_in p a)) r k.tree (
        z.0,
        λ j at q l.
            z.1 q l
            ∙ turned_same u n (table_of x) (expr_table n (path_of t) (expr_in p a) e j)
            (subst (λ (y : ℕ). Same (tuples n y) (table_of x) (expr_table n (path_of t) (expr_in p a) e j)) two (part.value j at)) q l,
      )

  pub next_is : (a m : ℕ) → node_at (nodes_in p) i ≡ node.Next a → (s < t.shape.states → m ≡ following t.shape.states t.shape.loop_start s) → ExpressionIs n p t e a m r → ExpressionIs n p t e i s r
  unfolding state_at
  next_is a m h em part =
      let k = next_at (sorted_in p) i there a h in
      stated_is n p t e i s (next (expr_in p a)) r k.tree (
        part.atoms,
        λ j at q l.
            let below : s < t.shape.states = subst (λ (z : ℕ). z < t.shape.states) at (state_at_below t.shape.states t.shape.loop_start j t.shape.loops) in
            let f : state_at t.shape.states t.shape.loop_start (j + 1) ≡ m =
            ap (state_at t.shape.states t.shape.loop_start) (add-one j) ∙ ap (following t.shape.states t.shape.loop_start) at ∙ sym (em below) in
            part.value (j + 1) f q l,
      )

  pub combined_is :
      (o : Operator) (a b : ℕ) (x y : Tuples) → node_at (nodes_in p) i ≡ node.Combined o a b → ExpressionIs n p t e a s x → ExpressionIs n p t e b s y →
      (suits o x.arity y.arity ≡ true → Tabled n (outcome o x.arity y.arity) (combined_table o n y.arity (table_of x) (table_of y)) r) → ExpressionIs n p t e i s r
  combined_is o a b x y h first second tabled =
      let S = sorted_in p in
      let k = combined_at S i there o a b h in
      let ta : arity (expr_in p a) ≡ arity_at (sorts_in p) a = tree_arity S a (omega arith) k.some_left in
      let tb : arity (expr_in p b) ≡ arity_at (sorts_in p) b = tree_arity S b (omega arith) k.some_right in
      let fits : suits o (arity (expr_in p a)) (arity (expr_in p b)) ≡ true = ap₂ (suits o) ta tb ∙ k.suited in
      let z = renamed o n x.arity y.arity (arity (expr_in p a)) (arity (expr_in p b)) (table_of x) (table_of y) r first.atoms second.atoms fits tabled in
      stated_is n p t e i s (combined o (expr_in p a) (expr_in p b)) r k.tree (
        z.0,
        λ j at q l.
            z.1 q l
            ∙ combined_same o n (arity (expr_in p a)) (arity (expr_in p b)) (table_of x) (expr_table n (path_of t) (expr_in p a) e j) (table_of y) (expr_table n (path_of t) (expr_in p b) e j)
            (fit o (arity (expr_in p a)) (arity (expr_in p b)) (omega (arith, first.atoms, x.some)) (omega (arith, second.atoms, y.some)) fits) (first.value j at) (second.value j at) q l,
      )

pub constant_node : (p : Problem) (i : ℕ) → i < length (nodes_in p) → (c : Constant) → node_at (nodes_in p) i ≡ node.Constant c → expr_in p i ≡ constant c
constant_node p i there c h = expr_tree_is (sorted_in p) i there (node.Constant c) h

-- a node that is no expression stands for none
pub no_expression :
    (p : Problem) (i : ℕ) → i < length (nodes_in p) → (x : Node) → node_at (nodes_in p) i ≡ x → ((r : ℕ) → x ≡ node.Relation r → ⊥) → ((v : ℕ) → x ≡ node.Variable v → ⊥) →
    ((c : Constant) → x ≡ node.Constant c → ⊥) → ((u : Turn) (a : ℕ) → x ≡ node.Turned u a → ⊥) → ((a : ℕ) → x ≡ node.Next a → ⊥) →
    ((o : Operator) (a b : ℕ) → x ≡ node.Combined o a b → ⊥) → expr_in p i ≡ no_expr
no_expression p i there (node.Relation r) h f1 f2 f3 f4 f5 f6 = absurd (f1 r refl)
no_expression p i there (node.Variable v) h f1 f2 f3 f4 f5 f6 = absurd (f2 v refl)
no_expression p i there (node.Constant c) h f1 f2 f3 f4 f5 f6 = absurd (f3 c refl)
no_expression p i there (node.Turned u a) h f1 f2 f3 f4 f5 f6 = absurd (f4 u a refl)
no_expression p i there (node.Next a) h f1 f2 f3 f4 f5 f6 = absurd (f5 a refl)
no_expression p i there (node.Combined o a b) h f1 f2 f3 f4 f5 f6 = absurd (f6 o a b refl)
no_expression p i there (node.Tested q a) h f1 f2 f3 f4 f5 f6 = expr_tree_is (sorted_in p) i there (node.Tested q a) h
no_expression p i there (node.Compared c a b) h f1 f2 f3 f4 f5 f6 = expr_tree_is (sorted_in p) i there (node.Compared c a b) h
no_expression p i there (node.Prefixed w a) h f1 f2 f3 f4 f5 f6 = expr_tree_is (sorted_in p) i there (node.Prefixed w a) h
no_expression p i there (node.Joined w a b) h f1 f2 f3 f4 f5 f6 = expr_tree_is (sorted_in p) i there (node.Joined w a b) h
no_expression p i there (node.Quantified q v a b) h f1 f2 f3 f4 f5 f6 = expr_tree_is (sorted_in p) i there (node.Quantified q v a b) h
