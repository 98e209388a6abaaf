-- The row of each kind of formula, from those of its parts.
use Rattle.std.proofs.Common.{◌≡◌, ℕ, zero, suc, ◌+◌, ◌-◌, ◌<◌, ◌≤◌, List, length, set, sym, refl, ap, ap₂, ◌∙◌, subst, ⊎_elim, arith}
use Rattle.std.proofs.lemmas.Bool.{cases_lt}
use Rattle.lasso.specs.declared.value.Value.{Value}
use Rattle.lasso.specs.declared.value.Value.TheVariants.{No, Yes}
use Rattle.lasso.specs.Values.{not, smaller, greater}
use Rattle.problem.specs.declared.node.Node.{Node}
use Rattle.problem.specs.declared.node.Node.TheVariants as node
use Rattle.problem.specs.declared.node.Constant.TheVariants as constants
use Rattle.problem.specs.declared.node.Test.{Test}
use Rattle.problem.specs.declared.node.Comparison.{Comparison}
use Rattle.problem.specs.declared.node.Prefix.{Prefix}
use Rattle.problem.specs.declared.node.Prefix.TheVariants as prefix
use Rattle.problem.specs.declared.node.Infix.{Infix}
use Rattle.problem.specs.declared.node.Infix.TheVariants as word
use Rattle.problem.specs.declared.node.Quantifier.{Quantifier}
use Rattle.problem.specs.declared.problem.Problem.{Problem}
use Rattle.problem.specs.Sorts.{node_at}
use Rattle.problem.specs.Problems.{nodes_in}
use Rattle.meaning.specs.Tuples.{tuples}
use Rattle.meaning.specs.Formulas.{Formula, prefixed, joined, tested, compared, quantified, arity}
use Rattle.meaning.specs.Trees.{no_formula}
use Rattle.meaning.specs.Expressions.{expr_table}
use Rattle.meaning.specs.Evaluation.{formula_row}
use Rattle.meaning.specs.Tables.{table_at, constant_table, highest, tested_value, compared_value, quantified_value}
use Rattle.meaning.specs.Rows.{Row, RowIs, holding, after_row, prefixed_row, joined_row}
use Rattle.meaning.proofs.Nodes.{sorted_in, formula_tree_is, tree_arity, compared_at, quantified_at}
use Rattle.meaning.proofs.Walks.{after_within, after_wraps, forth_same, round_same}
use Rattle.table.specs.declared.table.Table.{Table}
use Rattle.table.specs.Tables.{path_of}
use Rattle.rows.specs.declared.window.Window.{Window}
use Rattle.evaluate.specs.Shown.{expr_in, formula_at, row_of}
use Rattle.evaluate.proofs.Same.{Same}

before_same : (w : ℕ) (a b : Row) → Same w a b → (i : ℕ) → i < w → prefixed_row w 0 prefix.Before a i ≡ prefixed_row w 0 prefix.Before b i
before_same w a b e zero h = refl
before_same w a b e (suc i) h = e i (omega arith)

module _ (w p : ℕ) (pos : 0 < p) (fits : p ≤ w) where
  after_same : (a b : Row) → Same w a b → Same w (after_row w p a) (after_row w p b)
  after_same a b e i h =
      ⊎_elim
      (λ lt. after_within a w p i lt ∙ e (i + 1) lt ∙ sym (after_within b w p i lt))
      (λ ge. after_wraps a w p i ge ∙ e (w - p) (omega arith) ∙ sym (after_wraps b w p i ge))
      (cases_lt (i + 1) w)

  pub prefixed_same : (x : Prefix) (a b : Row) → Same w a b → Same w (prefixed_row w p x a) (prefixed_row w p x b)
  prefixed_same prefix.Not a b e i h = ap not (e i h)
  prefixed_same prefix.After a b e i h = after_same a b e i h
  prefixed_same prefix.Always a b e i h =
      round_same w (λ j v. smaller (a j) v) (λ j v. smaller (b j) v) (λ j l v. ap (λ (x : Value). smaller x v) (e j l)) p Yes fits i h
  prefixed_same prefix.Eventually a b e i h =
      round_same w (λ j v. greater (a j) v) (λ j v. greater (b j) v) (λ j l v. ap (λ (x : Value). greater x v) (e j l)) p No fits i h
  prefixed_same prefix.Before a b e i h = before_same w a b e i h
  prefixed_same prefix.Historically a b e i h =
      forth_same w (λ j v. smaller (a j) v) (λ j v. smaller (b j) v) (λ j l v. ap (λ (x : Value). smaller x v) (e j l)) Yes i h
  prefixed_same prefix.Once a b e i h =
      forth_same w (λ j v. greater (a j) v) (λ j v. greater (b j) v) (λ j l v. ap (λ (x : Value). greater x v) (e j l)) No i h

  holding_same : (a b c d : Row) → Same w a c → Same w b d → (j : ℕ) → j < w → (v : Value) → holding a b j v ≡ holding c d j v
  holding_same a b c d e f j l v = ap₂ greater (f j l) (ap (λ (x : Value). smaller x v) (e j l))

  pub joined_same : (x : Infix) (a b c d : Row) → Same w a c → Same w b d → Same w (joined_row w p x a b) (joined_row w p x c d)
  joined_same word.And a b c d e f i h = ap₂ smaller (e i h) (f i h)
  joined_same word.Or a b c d e f i h = ap₂ greater (e i h) (f i h)
  joined_same word.Implies a b c d e f i h = ap₂ (λ (x y : Value). greater (not x) y) (e i h) (f i h)
  joined_same word.Until a b c d e f i h = round_same w (holding a b) (holding c d) (holding_same a b c d e f) p No fits i h
  joined_same word.Since a b c d e f i h = forth_same w (holding a b) (holding c d) (holding_same a b c d e f) No i h

none_found : (c n : ℕ) → No ≡ highest c (constant_table n constants.None)
unfolding highest
none_found zero n = refl
none_found (suc c) n = ap (λ (x : Value). greater x No) (none_found c n)

module _ (n : ℕ) (w : Window) (p : Problem) (t : Table) (e : List ℕ) (i : ℕ) (there : i < length (nodes_in p)) (row : List Value) where
  -- a row that a formula has is that of a node with this tree
  pub row_is : (f : Formula) → formula_at p i ≡ f → RowIs w.instants row (formula_row n w.instants w.period (path_of t) f e) → RowIs w.instants row (row_of n w p t e i)
  row_is f q h = subst (λ (g : Formula). RowIs w.instants row (formula_row n w.instants w.period (path_of t) g e)) (sym q) h

  pub no_formula_is : formula_at p i ≡ no_formula → RowIs w.instants row (λ j. No) → RowIs w.instants row (row_of n w p t e i)
  no_formula_is q h = row_is no_formula q (λ j k. h j k ∙ none_found (tuples n 1) n)

  pub tested_is :
      (q : Test) (a : ℕ) → node_at (nodes_in p) i ≡ node.Tested q a →
      RowIs w.instants row (λ j. tested_value q (tuples n (arity (expr_in p a))) (expr_table n (path_of t) (expr_in p a) e j)) → RowIs w.instants row (row_of n w p t e i)
  tested_is q a h r = row_is (tested q (expr_in p a)) (formula_tree_is (sorted_in p) i there (node.Tested q a) h) r

  pub compared_is :
      (c : Comparison) (a b : ℕ) → node_at (nodes_in p) i ≡ node.Compared c a b →
      RowIs w.instants row (λ j. compared_value c (tuples n (arity (expr_in p a))) (expr_table n (path_of t) (expr_in p a) e j) (expr_table n (path_of t) (expr_in p b) e j)) →
      RowIs w.instants row (row_of n w p t e i)
  compared_is c a b h r = row_is (compared c (expr_in p a) (expr_in p b)) (formula_tree_is (sorted_in p) i there (node.Compared c a b) h) r

  pub quantified_is :
      (q : Quantifier) (v a b : ℕ) → node_at (nodes_in p) i ≡ node.Quantified q v a b →
      RowIs w.instants row (λ j. quantified_value q n (expr_table n (path_of t) (expr_in p a) e j) (λ c. row_of n w p t (set e v c) b j)) →
      RowIs w.instants row (row_of n w p t e i)
  quantified_is q v a b h r = row_is (quantified q v (expr_in p a) (formula_at p b)) (formula_tree_is (sorted_in p) i there (node.Quantified q v a b) h) r

  pub prefixed_is :
      (x : Prefix) (a : ℕ) (part : List Value) → node_at (nodes_in p) i ≡ node.Prefixed x a → RowIs w.instants part (row_of n w p t e a) →
      RowIs w.instants row (prefixed_row w.instants w.period x (table_at part)) → RowIs w.instants row (row_of n w p t e i)
  prefixed_is x a part h one r =
      row_is (prefixed x (formula_at p a)) (formula_tree_is (sorted_in p) i there (node.Prefixed x a) h)
      (λ j k. r j k ∙ prefixed_same w.instants w.period w.some w.inside x (table_at part) (row_of n w p t e a) one j k)

  pub joined_is :
      (x : Infix) (a b : ℕ) (left right : List Value) → node_at (nodes_in p) i ≡ node.Joined x a b → RowIs w.instants left (row_of n w p t e a) →
      RowIs w.instants right (row_of n w p t e b) → RowIs w.instants row (joined_row w.instants w.period x (table_at left) (table_at right)) →
      RowIs w.instants row (row_of n w p t e i)
  joined_is x a b left right h one two r =
      row_is (joined x (formula_at p a) (formula_at p b)) (formula_tree_is (sorted_in p) i there (node.Joined x a b) h)
      (λ j k. r j k ∙ joined_same w.instants w.period w.some w.inside x (table_at left) (table_at right) (row_of n w p t e a) (row_of n w p t e b) one two j k)

-- what the parts of a comparison and of a quantifier are
pub alike : (p : Problem) (i : ℕ) → i < length (nodes_in p) → (c : Comparison) (a b : ℕ) → node_at (nodes_in p) i ≡ node.Compared c a b → arity (expr_in p a) ≡ arity (expr_in p b)
alike p i there c a b h =
    let S = sorted_in p in
    let k = compared_at S i there c a b h in
    tree_arity S a (omega arith) k.some_left ∙ k.alike ∙ sym (tree_arity S b (omega arith) k.some_right)

pub of_atoms : (p : Problem) (i : ℕ) → i < length (nodes_in p) → (q : Quantifier) (v a b : ℕ) → node_at (nodes_in p) i ≡ node.Quantified q v a b → arity (expr_in p a) ≡ 1
of_atoms p i there q v a b h =
    let S = sorted_in p in
    let k = quantified_at S i there q v a b h in
    tree_arity S a (omega arith) k.some ∙ k.atoms

-- a node that is no formula stands for none
pub none_is_no_formula :
    (p : Problem) (i : ℕ) → i < length (nodes_in p) → (x : Node) → node_at (nodes_in p) i ≡ x → ((q : Test) (a : ℕ) → x ≡ node.Tested q a → ⊥) →
    ((c : Comparison) (a b : ℕ) → x ≡ node.Compared c a b → ⊥) → ((w : Prefix) (a : ℕ) → x ≡ node.Prefixed w a → ⊥) →
    ((w : Infix) (a b : ℕ) → x ≡ node.Joined w a b → ⊥) → ((q : Quantifier) (v a b : ℕ) → x ≡ node.Quantified q v a b → ⊥) → formula_at p i ≡ no_formula
none_is_no_formula p i there (node.Relation r) h f1 f2 f3 f4 f5 = formula_tree_is (sorted_in p) i there (node.Relation r) h
none_is_no_formula p i there (node.Variable v) h f1 f2 f3 f4 f5 = formula_tree_is (sorted_in p) i there (node.Variable v) h
none_is_no_formula p i there (node.Constant c) h f1 f2 f3 f4 f5 = formula_tree_is (sorted_in p) i there (node.Constant c) h
none_is_no_formula p i there (node.Turned u a) h f1 f2 f3 f4 f5 = formula_tree_is (sorted_in p) i there (node.Turned u a) h
none_is_no_formula p i there (node.Next a) h f1 f2 f3 f4 f5 = formula_tree_is (sorted_in p) i there (node.Next a) h
none_is_no_formula p i there (node.Combined o a b) h f1 f2 f3 f4 f5 = formula_tree_is (sorted_in p) i there (node.Combined o a b) h
none_is_no_formula p i there (node.Tested q a) h f1 f2 f3 f4 f5 = absurd (f1 q a refl)
none_is_no_formula p i there (node.Compared c a b) h f1 f2 f3 f4 f5 = absurd (f2 c a b refl)
none_is_no_formula p i there (node.Prefixed w a) h f1 f2 f3 f4 f5 = absurd (f3 w a refl)
none_is_no_formula p i there (node.Joined w a b) h f1 f2 f3 f4 f5 = absurd (f4 w a b refl)
none_is_no_formula p i there (node.Quantified q v a b) h f1 f2 f3 f4 f5 = absurd (f5 q v a b refl)
