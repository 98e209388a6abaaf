-- What a node of a formula is made of, what sort it has, and the tree that it stands for.
use Rattle.std.proofs.Common.{◌≡◌, ℕ, zero, suc, ◌+◌, ◌<◌, ◌≤◌, max, true, ltb, List, length, take, slice_get, slice_index, Ok, Result, sym, refl, ap, ap₂, ◌∙◌, arith, ltb-true, get_or-take, length-take}
use Rattle.std.proofs.lemmas.List.{length-map}
use Rattle.problem.specs.declared.node.Node.{Node}
use Rattle.problem.specs.declared.node.Node.TheVariants as node
use Rattle.problem.specs.declared.node.Constant.{Constant}
use Rattle.problem.specs.declared.node.Turn.{Turn}
use Rattle.problem.specs.declared.node.Operator.{Operator}
use Rattle.problem.specs.declared.node.Test.{Test}
use Rattle.problem.specs.declared.node.Comparison.{Comparison}
use Rattle.problem.specs.declared.node.Prefix.{Prefix}
use Rattle.problem.specs.declared.node.Infix.{Infix}
use Rattle.problem.specs.declared.node.Quantifier.{Quantifier}
use Rattle.problem.specs.declared.sort.Sort.{Sort}
use Rattle.problem.specs.declared.sort.Sort.TheVariants as sort
use Rattle.problem.specs.declared.sort.Misfit.{Misfit}
use Rattle.problem.specs.Sorts.{most_past, most_variables, sort_arity, sort_past, sort_bound, is_expression, is_formula, part_node, part_sort, expression, formula, from, constant_arity, suits, outcome, prefix_past, infix_past, shallow, relation_sort, judge, Judged, found, no_sort, node_at, sort_at, arity_at, bound_at}
use Rattle.problem.specs.Sorts as sorts
use Rattle.problem.specs.declared.problem.Problem.{Problem}
use Rattle.problem.specs.Problems.{nodes_in, sorts_in}
use Rattle.problem.proofs.Inversions.{fits, found_inv, part_in, ok_inv, relation_inv, turned_inv, next_inv, tested_inv, combined_inv, compared_inv, prefixed_inv, joined_inv, quantified_inv}
use Rattle.meaning.specs.Formulas.{Expr, variable, constant, turned, next, combined, arity, Formula, tested, compared, prefixed, joined, quantified, depth}
use Rattle.meaning.specs.Trees.{Places, relation_tree, expr_of, formula_of, expr_within, formula_within, expr_tree, formula_tree, places_in}
use Rattle.meaning.specs.NodeLaws.{past_at}

-- each node has its sort
pub record Sorted (s : Places) (ns : List Node) (ss : List Sort) : Type 0 where
  pub even : length ss ≡ length ns
  pub judged : Judged s.arities ns ss

pub sorted_in : (p : Problem) → Sorted (places_in p) (nodes_in p) (sorts_in p)
sorted_in p = record {
  even = length-map p.draft.parts.items part_sort ∙ sym (length-map p.draft.parts.items part_node);
  judged = p.draft.judged;
}

-- a part that is found stands before the node
record Part (ss : List Sort) (i a : ℕ) (k : Sort → Result Sort Misfit) (t : Sort) : Type 0 where
  pub before : a < i
  pub rest : k (sort_at ss a) ≡ Ok t

part : (ss : List Sort) (i a : ℕ) (k : Sort → Result Sort Misfit) (t : Sort) → from (slice_get (take i ss) a) k ≡ Ok t → Part ss i a k t
part ss i a k t e =
    let f = part_in (take i ss) a k t e in
    let h : a < i = omega (arith, f.within, length-take i ss) in
    record { before = h; rest = ap k (sym (get_or-take i ss a no_sort h)) ∙ f.rest }

record Parts (ss : List Sort) (i a b : ℕ) (k : Sort → Sort → Result Sort Misfit) (t : Sort) : Type 0 where
  pub left : a < i
  pub right : b < i
  pub rest : k (sort_at ss a) (sort_at ss b) ≡ Ok t

parts : (ss : List Sort) (i a b : ℕ) (k : Sort → Sort → Result Sort Misfit) (t : Sort) → from (slice_get (take i ss) a) (λ x. from (slice_get (take i ss) b) (λ y. k x y)) ≡ Ok t → Parts ss i a b k t
parts ss i a b k t e =
    let f = part ss i a (λ x. from (slice_get (take i ss) b) (λ y. k x y)) t e in
    let g = part ss i b (λ y. k (sort_at ss a) y) t f.rest in
    record { left = f.before; right = g.before; rest = g.rest }

-- the expression of a node needs those of the nodes before it only
expr_steady : (s : Places) (ss : List Sort) (i : ℕ) (t : Sort) (x y : ℕ → Expr) → ((a : ℕ) → a < i → x a ≡ y a) → (n : Node) → judge s.arities (take i ss) n ≡ Ok t → expr_of s x n ≡ expr_of s y n
expr_steady s ss i t x y q (node.Relation r) e = refl
expr_steady s ss i t x y q (node.Variable v) e = refl
expr_steady s ss i t x y q (node.Constant c) e = refl
expr_steady s ss i t x y q (node.Turned o a) e = let p = part ss i a sorts.turned_sort t e in ap (turned o) (q a p.before)
expr_steady s ss i t x y q (node.Next a) e = let p = part ss i a sorts.next_sort t e in ap next (q a p.before)
expr_steady s ss i t x y q (node.Combined o a b) e =
    let p = parts ss i a b (sorts.combined o) t e in ap₂ (combined o) (q a p.left) (q b p.right)
expr_steady s ss i t x y q (node.Tested o a) e = refl
expr_steady s ss i t x y q (node.Compared c a b) e = refl
expr_steady s ss i t x y q (node.Prefixed w a) e = refl
expr_steady s ss i t x y q (node.Joined w a b) e = refl
expr_steady s ss i t x y q (node.Quantified o v a b) e = refl

formula_steady : (s : Places) (ss : List Sort) (i : ℕ) (t : Sort) (x y : ℕ → Expr) (f g : ℕ → Formula) → ((a : ℕ) → a < i → x a ≡ y a) → ((a : ℕ) → a < i → f a ≡ g a) → (n : Node) → judge s.arities (take i ss) n ≡ Ok t → formula_of x f n ≡ formula_of y g n
formula_steady s ss i t x y f g q r (node.Relation z) e = refl
formula_steady s ss i t x y f g q r (node.Variable v) e = refl
formula_steady s ss i t x y f g q r (node.Constant c) e = refl
formula_steady s ss i t x y f g q r (node.Turned o a) e = refl
formula_steady s ss i t x y f g q r (node.Next a) e = refl
formula_steady s ss i t x y f g q r (node.Combined o a b) e = refl
formula_steady s ss i t x y f g q r (node.Tested o a) e = let p = part ss i a sorts.tested_sort t e in ap (tested o) (q a p.before)
formula_steady s ss i t x y f g q r (node.Compared c a b) e =
    let p = parts ss i a b sorts.compared t e in ap₂ (compared c) (q a p.left) (q b p.right)
formula_steady s ss i t x y f g q r (node.Prefixed w a) e =
    let p = part ss i a (sorts.prefixed (prefix_past w)) t e in ap (prefixed w) (r a p.before)
formula_steady s ss i t x y f g q r (node.Joined w a b) e =
    let p = parts ss i a b (sorts.joined (infix_past w)) t e in ap₂ (joined w) (r a p.left) (r b p.right)
formula_steady s ss i t x y f g q r (node.Quantified o v a b) e =
    let p = parts ss i a b (sorts.quantified v) t e in ap₂ (quantified o v) (q a p.left) (r b p.right)

-- what a node is judged to be is its sort
pub judged_as : {s : Places} {ns : List Node} {ss : List Sort} → Sorted s ns ss → (i : ℕ) → i < length ns → (n : Node) → node_at ns i ≡ n → judge s.arities (take i ss) n ≡ Ok (sort_at ss i)
judged_as {s} {ns} {ss} S i h n e =
    found_inv (judge s.arities (take i ss) n) (sort_at ss i)
    (ap (λ (x : Node). found (judge s.arities (take i ss) x) (sort_at ss i)) (sym e) ∙ S.judged i h)

-- so many levels are enough for the trees
exprs_steady : {s : Places} {ns : List Node} {ss : List Sort} → Sorted s ns ss → (m n i : ℕ) → i < length ns → i < m → i < n → expr_within s ns m i ≡ expr_within s ns n i
unfolding expr_within
exprs_steady S zero n i h j k = absurd (omega arith)
exprs_steady S (suc m) zero i h j k = absurd (omega arith)
exprs_steady {s} {ns} {ss} S (suc m) (suc n) i h j k =
    expr_steady s ss i (sort_at ss i) (expr_within s ns m) (expr_within s ns n) (λ a l. exprs_steady S m n a (omega arith) (omega arith) (omega arith)) (node_at ns i) (judged_as S i h (node_at ns i) refl)

formulas_steady : {s : Places} {ns : List Node} {ss : List Sort} → Sorted s ns ss → (m n i : ℕ) → i < length ns → i < m → i < n → formula_within s ns m i ≡ formula_within s ns n i
unfolding formula_within
formulas_steady S zero n i h j k = absurd (omega arith)
formulas_steady S (suc m) zero i h j k = absurd (omega arith)
formulas_steady {s} {ns} {ss} S (suc m) (suc n) i h j k =
    formula_steady s ss i (sort_at ss i) (expr_within s ns m) (expr_within s ns n) (formula_within s ns m) (formula_within s ns n) (λ a l. exprs_steady S m n a (omega arith) (omega arith) (omega arith)) (λ a l. formulas_steady S m n a (omega arith) (omega arith) (omega arith)) (node_at ns i) (judged_as S i h (node_at ns i) refl)

-- the tree of a node, by the trees of its parts
pub expr_tree_is : {s : Places} {ns : List Node} {ss : List Sort} → Sorted s ns ss → (i : ℕ) → i < length ns → (n : Node) → node_at ns i ≡ n → expr_tree s ns i ≡ expr_of s (expr_tree s ns) n
unfolding expr_tree expr_within
expr_tree_is {s} {ns} {ss} S i h n e =
    expr_steady s ss i (sort_at ss i) (expr_within s ns i) (expr_tree s ns) (λ a l. exprs_steady S i (suc a) a (omega arith) l (omega arith)) (node_at ns i) (judged_as S i h (node_at ns i) refl)
    ∙ ap (expr_of s (expr_tree s ns)) e

pub formula_tree_is : {s : Places} {ns : List Node} {ss : List Sort} → Sorted s ns ss → (i : ℕ) → i < length ns → (n : Node) → node_at ns i ≡ n → formula_tree s ns i ≡ formula_of (expr_tree s ns) (formula_tree s ns) n
unfolding expr_tree formula_tree formula_within
formula_tree_is {s} {ns} {ss} S i h n e =
    formula_steady s ss i (sort_at ss i) (expr_within s ns i) (expr_tree s ns) (formula_within s ns i) (formula_tree s ns) (λ a l. exprs_steady S i (suc a) a (omega arith) l (omega arith)) (λ a l. formulas_steady S i (suc a) a (omega arith) l (omega arith)) (node_at ns i) (judged_as S i h (node_at ns i) refl)
    ∙ ap (formula_of (expr_tree s ns) (formula_tree s ns)) e

module _ (s : Places) (ns : List Node) (ss : List Sort) (i : ℕ) where
  pub record RelationAt (r : ℕ) : Type 0 where
    pub declared : r < length s.arities
    pub own : arity_at ss i ≡ slice_index s.arities r
    pub past : past_at ss i ≡ 0
    pub bound : bound_at ss i ≡ 0
    pub tree : expr_tree s ns i ≡ relation_tree s r

  pub record VariableAt (v : ℕ) : Type 0 where
    pub few : v < most_variables
    pub own : arity_at ss i ≡ 1
    pub past : past_at ss i ≡ 0
    pub bound : bound_at ss i ≡ suc v
    pub tree : expr_tree s ns i ≡ variable v

  pub record ConstantAt (c : Constant) : Type 0 where
    pub own : arity_at ss i ≡ constant_arity c
    pub past : past_at ss i ≡ 0
    pub bound : bound_at ss i ≡ 0
    pub tree : expr_tree s ns i ≡ constant c

  pub record TurnedAt (t : Turn) (a : ℕ) : Type 0 where
    pub before : a < i
    pub some : is_expression (sort_at ss a) ≡ true
    pub pairs : arity_at ss a ≡ 2
    pub own : arity_at ss i ≡ 2
    pub past : past_at ss i ≡ 0
    pub bound : bound_at ss i ≡ bound_at ss a
    pub tree : expr_tree s ns i ≡ turned t (expr_tree s ns a)

  pub record NextAt (a : ℕ) : Type 0 where
    pub before : a < i
    pub some : is_expression (sort_at ss a) ≡ true
    pub own : arity_at ss i ≡ arity_at ss a
    pub past : past_at ss i ≡ 0
    pub bound : bound_at ss i ≡ bound_at ss a
    pub tree : expr_tree s ns i ≡ next (expr_tree s ns a)

  pub record CombinedAt (o : Operator) (a b : ℕ) : Type 0 where
    pub left : a < i
    pub right : b < i
    pub some_left : is_expression (sort_at ss a) ≡ true
    pub some_right : is_expression (sort_at ss b) ≡ true
    pub suited : suits o (arity_at ss a) (arity_at ss b) ≡ true
    pub own : arity_at ss i ≡ outcome o (arity_at ss a) (arity_at ss b)
    pub past : past_at ss i ≡ 0
    pub bound : bound_at ss i ≡ max (bound_at ss a) (bound_at ss b)
    pub tree : expr_tree s ns i ≡ combined o (expr_tree s ns a) (expr_tree s ns b)

  pub record TestedAt (q : Test) (a : ℕ) : Type 0 where
    pub before : a < i
    pub some : is_expression (sort_at ss a) ≡ true
    pub own : is_formula (sort_at ss i) ≡ true
    pub past : past_at ss i ≡ 0
    pub bound : bound_at ss i ≡ bound_at ss a
    pub tree : formula_tree s ns i ≡ tested q (expr_tree s ns a)

  pub record ComparedAt (c : Comparison) (a b : ℕ) : Type 0 where
    pub left : a < i
    pub right : b < i
    pub some_left : is_expression (sort_at ss a) ≡ true
    pub some_right : is_expression (sort_at ss b) ≡ true
    pub alike : arity_at ss a ≡ arity_at ss b
    pub own : is_formula (sort_at ss i) ≡ true
    pub past : past_at ss i ≡ 0
    pub bound : bound_at ss i ≡ max (bound_at ss a) (bound_at ss b)
    pub tree : formula_tree s ns i ≡ compared c (expr_tree s ns a) (expr_tree s ns b)

  pub record PrefixedAt (w : Prefix) (a : ℕ) : Type 0 where
    pub before : a < i
    pub formula : is_formula (sort_at ss a) ≡ true
    pub own : is_formula (sort_at ss i) ≡ true
    pub past : past_at ss i ≡ past_at ss a + prefix_past w
    pub shallow : past_at ss a + prefix_past w ≤ most_past
    pub bound : bound_at ss i ≡ bound_at ss a
    pub tree : formula_tree s ns i ≡ prefixed w (formula_tree s ns a)

  pub record JoinedAt (w : Infix) (a b : ℕ) : Type 0 where
    pub left : a < i
    pub right : b < i
    pub left_formula : is_formula (sort_at ss a) ≡ true
    pub right_formula : is_formula (sort_at ss b) ≡ true
    pub own : is_formula (sort_at ss i) ≡ true
    pub past : past_at ss i ≡ max (past_at ss a) (past_at ss b) + infix_past w
    pub shallow : max (past_at ss a) (past_at ss b) + infix_past w ≤ most_past
    pub bound : bound_at ss i ≡ max (bound_at ss a) (bound_at ss b)
    pub tree : formula_tree s ns i ≡ joined w (formula_tree s ns a) (formula_tree s ns b)

  pub record QuantifiedAt (q : Quantifier) (v a b : ℕ) : Type 0 where
    pub domain : a < i
    pub body : b < i
    pub some : is_expression (sort_at ss a) ≡ true
    pub atoms : arity_at ss a ≡ 1
    pub formula : is_formula (sort_at ss b) ≡ true
    pub few : v < most_variables
    pub domain_bound : bound_at ss a ≤ v
    pub body_bound : bound_at ss b ≤ suc v
    pub own : is_formula (sort_at ss i) ≡ true
    pub past : past_at ss i ≡ past_at ss b
    pub bound : bound_at ss i ≡ v
    pub tree : formula_tree s ns i ≡ quantified q v (expr_tree s ns a) (formula_tree s ns b)

-- one lemma for each kind of node
module _ {s : Places} {ns : List Node} {ss : List Sort} (S : Sorted s ns ss) (i : ℕ) (h : i < length ns) where
  pub relation_at : (r : ℕ) → node_at ns i ≡ node.Relation r → RelationAt s ns ss i r
  relation_at r e =
      let f = relation_inv s.arities r (slice_get s.arities r) (sort_at ss i) refl (judged_as S i h (node.Relation r) e) in
      record {
        declared = f.declared;
        own = ap sort_arity f.same;
        past = ap sort_past f.same;
        bound = ap sort_bound f.same;
        tree = expr_tree_is S i h (node.Relation r) e;
      }

  pub variable_at : (v : ℕ) → node_at ns i ≡ node.Variable v → VariableAt s ns ss i v
  variable_at v e =
      let f = fits (ltb v most_variables) (expression 1 (suc v)) (sort_at ss i) _ (judged_as S i h (node.Variable v) e) in
      record {
        few = ltb-true _ _ f.met;
        own = ap sort_arity f.same;
        past = ap sort_past f.same;
        bound = ap sort_bound f.same;
        tree = expr_tree_is S i h (node.Variable v) e;
      }

  pub constant_at : (c : Constant) → node_at ns i ≡ node.Constant c → ConstantAt s ns ss i c
  constant_at c e =
      let f = ok_inv (expression (constant_arity c) 0) (sort_at ss i) (judged_as S i h (node.Constant c) e) in
      record { own = ap sort_arity f; past = ap sort_past f; bound = ap sort_bound f; tree = expr_tree_is S i h (node.Constant c) e }

  pub turned_at : (t : Turn) (a : ℕ) → node_at ns i ≡ node.Turned t a → TurnedAt s ns ss i t a
  turned_at t a e =
      let p = part ss i a sorts.turned_sort (sort_at ss i) (judged_as S i h (node.Turned t a) e) in
      let f = turned_inv (sort_at ss a) (sort_at ss i) p.rest in
      record {
        before = p.before;
        some = f.some;
        pairs = f.pairs;
        own = ap sort_arity f.same;
        past = ap sort_past f.same;
        bound = ap sort_bound f.same;
        tree = expr_tree_is S i h (node.Turned t a) e;
      }

  pub next_at : (a : ℕ) → node_at ns i ≡ node.Next a → NextAt s ns ss i a
  next_at a e =
      let p = part ss i a sorts.next_sort (sort_at ss i) (judged_as S i h (node.Next a) e) in
      let f = next_inv (sort_at ss a) (sort_at ss i) p.rest in
      record {
        before = p.before;
        some = f.some;
        own = ap sort_arity f.same;
        past = ap sort_past f.same;
        bound = ap sort_bound f.same;
        tree = expr_tree_is S i h (node.Next a) e;
      }

  pub combined_at : (o : Operator) (a b : ℕ) → node_at ns i ≡ node.Combined o a b → CombinedAt s ns ss i o a b
  combined_at o a b e =
      let p = parts ss i a b (sorts.combined o) (sort_at ss i) (judged_as S i h (node.Combined o a b) e) in
      let f = combined_inv o (sort_at ss a) (sort_at ss b) (sort_at ss i) p.rest in
      record {
        left = p.left;
        right = p.right;
        some_left = f.left;
        some_right = f.right;
        suited = f.suited;
        own = ap sort_arity f.same;
        past = ap sort_past f.same;
        bound = ap sort_bound f.same;
        tree = expr_tree_is S i h (node.Combined o a b) e;
      }

  pub tested_at : (q : Test) (a : ℕ) → node_at ns i ≡ node.Tested q a → TestedAt s ns ss i q a
  tested_at q a e =
      let p = part ss i a sorts.tested_sort (sort_at ss i) (judged_as S i h (node.Tested q a) e) in
      let f = tested_inv (sort_at ss a) (sort_at ss i) p.rest in
      record {
        before = p.before;
        some = f.some;
        own = ap is_formula f.same;
        past = ap sort_past f.same;
        bound = ap sort_bound f.same;
        tree = formula_tree_is S i h (node.Tested q a) e;
      }

  pub compared_at : (c : Comparison) (a b : ℕ) → node_at ns i ≡ node.Compared c a b → ComparedAt s ns ss i c a b
  compared_at c a b e =
      let p = parts ss i a b sorts.compared (sort_at ss i) (judged_as S i h (node.Compared c a b) e) in
      let f = compared_inv (sort_at ss a) (sort_at ss b) (sort_at ss i) p.rest in
      record {
        left = p.left;
        right = p.right;
        some_left = f.left;
        some_right = f.right;
        alike = f.alike;
        own = ap is_formula f.same;
        past = ap sort_past f.same;
        bound = ap sort_bound f.same;
        tree = formula_tree_is S i h (node.Compared c a b) e;
      }

  pub prefixed_at : (w : Prefix) (a : ℕ) → node_at ns i ≡ node.Prefixed w a → PrefixedAt s ns ss i w a
  prefixed_at w a e =
      let p = part ss i a (sorts.prefixed (prefix_past w)) (sort_at ss i) (judged_as S i h (node.Prefixed w a) e) in
      let f = prefixed_inv (prefix_past w) (sort_at ss a) (sort_at ss i) p.rest in
      record {
        before = p.before;
        formula = f.part;
        own = ap is_formula f.shallow.same;
        past = ap sort_past f.shallow.same;
        shallow = f.shallow.few;
        bound = ap sort_bound f.shallow.same;
        tree = formula_tree_is S i h (node.Prefixed w a) e;
      }

  pub joined_at : (w : Infix) (a b : ℕ) → node_at ns i ≡ node.Joined w a b → JoinedAt s ns ss i w a b
  joined_at w a b e =
      let p = parts ss i a b (sorts.joined (infix_past w)) (sort_at ss i) (judged_as S i h (node.Joined w a b) e) in
      let f = joined_inv (infix_past w) (sort_at ss a) (sort_at ss b) (sort_at ss i) p.rest in
      record {
        left = p.left;
        right = p.right;
        left_formula = f.left;
        right_formula = f.right;
        own = ap is_formula f.shallow.same;
        past = ap sort_past f.shallow.same;
        shallow = f.shallow.few;
        bound = ap sort_bound f.shallow.same;
        tree = formula_tree_is S i h (node.Joined w a b) e;
      }

  pub quantified_at : (q : Quantifier) (v a b : ℕ) → node_at ns i ≡ node.Quantified q v a b → QuantifiedAt s ns ss i q v a b
  quantified_at q v a b e =
      let p = parts ss i a b (sorts.quantified v) (sort_at ss i) (judged_as S i h (node.Quantified q v a b) e) in
      let f = quantified_inv v (sort_at ss a) (sort_at ss b) (sort_at ss i) p.rest in
      record {
        domain = p.left;
        body = p.right;
        some = f.domain;
        atoms = f.atoms;
        formula = f.body;
        few = f.few;
        domain_bound = f.domain_bound;
        body_bound = f.body_bound;
        own = ap is_formula f.same;
        past = ap sort_past f.same;
        bound = ap sort_bound f.same;
        tree = formula_tree_is S i h (node.Quantified q v a b) e;
      }

not_both : (s : Sort) → is_formula s ≡ true → is_expression s ≡ true → ⊥
not_both (sort.Expression a b) e f = cc
not_both (sort.Formula p b) e f = cc

-- the tree of an expression has the arity of its sort, where those of its parts have
arity_step : {s : Places} {ns : List Node} {ss : List Sort} → Sorted s ns ss → (i : ℕ) → i < length ns → ((a : ℕ) → a < i → is_expression (sort_at ss a) ≡ true → arity (expr_tree s ns a) ≡ arity_at ss a) → (n : Node) → node_at ns i ≡ n → is_expression (sort_at ss i) ≡ true → arity (expr_tree s ns i) ≡ arity_at ss i
arity_step S i h q (node.Relation r) e k = let p = relation_at S i h r e in ap arity p.tree ∙ sym p.own
arity_step S i h q (node.Variable v) e k = let p = variable_at S i h v e in ap arity p.tree ∙ sym p.own
arity_step S i h q (node.Constant c) e k = let p = constant_at S i h c e in ap arity p.tree ∙ sym p.own
arity_step S i h q (node.Turned t a) e k = let p = turned_at S i h t a e in ap arity p.tree ∙ sym p.own
arity_step S i h q (node.Next a) e k = let p = next_at S i h a e in ap arity p.tree ∙ q a p.before p.some ∙ sym p.own
arity_step S i h q (node.Combined o a b) e k =
    let p = combined_at S i h o a b e in
    ap arity p.tree ∙ ap₂ (outcome o) (q a p.left p.some_left) (q b p.right p.some_right) ∙ sym p.own
arity_step S i h q (node.Tested o a) e k = absurd (not_both _ (tested_at S i h o a e).own k)
arity_step S i h q (node.Compared c a b) e k = absurd (not_both _ (compared_at S i h c a b e).own k)
arity_step S i h q (node.Prefixed w a) e k = absurd (not_both _ (prefixed_at S i h w a e).own k)
arity_step S i h q (node.Joined w a b) e k = absurd (not_both _ (joined_at S i h w a b e).own k)
arity_step S i h q (node.Quantified o v a b) e k = absurd (not_both _ (quantified_at S i h o v a b e).own k)

arity_below : {s : Places} {ns : List Node} {ss : List Sort} → Sorted s ns ss → (m i : ℕ) → i < m → i < length ns → is_expression (sort_at ss i) ≡ true → arity (expr_tree s ns i) ≡ arity_at ss i
arity_below S zero i l h k = absurd (omega arith)
arity_below {s} {ns} {ss} S (suc m) i l h k =
    arity_step S i h (λ a x y. arity_below S m a (omega arith) (omega arith) y) (node_at ns i) refl k

pub tree_arity : {s : Places} {ns : List Node} {ss : List Sort} → Sorted s ns ss → (i : ℕ) → i < length ns → is_expression (sort_at ss i) ≡ true → arity (expr_tree s ns i) ≡ arity_at ss i
tree_arity S i h k = arity_below S (suc i) i (omega arith) h k

-- the tree of a formula is as deep in the past as its sort says, where those of its parts are
depth_step : {s : Places} {ns : List Node} {ss : List Sort} → Sorted s ns ss → (i : ℕ) → i < length ns → ((a : ℕ) → a < i → depth (formula_tree s ns a) ≡ past_at ss a) → (n : Node) → node_at ns i ≡ n → depth (formula_tree s ns i) ≡ past_at ss i
depth_step S i h q (node.Relation r) e = let p = relation_at S i h r e in ap depth (formula_tree_is S i h (node.Relation r) e) ∙ sym p.past
depth_step S i h q (node.Variable v) e = let p = variable_at S i h v e in ap depth (formula_tree_is S i h (node.Variable v) e) ∙ sym p.past
depth_step S i h q (node.Constant c) e = let p = constant_at S i h c e in ap depth (formula_tree_is S i h (node.Constant c) e) ∙ sym p.past
depth_step S i h q (node.Turned t a) e = let p = turned_at S i h t a e in ap depth (formula_tree_is S i h (node.Turned t a) e) ∙ sym p.past
depth_step S i h q (node.Next a) e = let p = next_at S i h a e in ap depth (formula_tree_is S i h (node.Next a) e) ∙ sym p.past
depth_step S i h q (node.Combined o a b) e =
    let p = combined_at S i h o a b e in ap depth (formula_tree_is S i h (node.Combined o a b) e) ∙ sym p.past
depth_step S i h q (node.Tested o a) e = let p = tested_at S i h o a e in ap depth p.tree ∙ sym p.past
depth_step S i h q (node.Compared c a b) e = let p = compared_at S i h c a b e in ap depth p.tree ∙ sym p.past
depth_step S i h q (node.Prefixed w a) e =
    let p = prefixed_at S i h w a e in
    ap depth p.tree ∙ ap (λ x. x + prefix_past w) (q a p.before) ∙ sym p.past
depth_step S i h q (node.Joined w a b) e =
    let p = joined_at S i h w a b e in
    ap depth p.tree ∙ ap₂ (λ x y. max x y + infix_past w) (q a p.left) (q b p.right) ∙ sym p.past
depth_step S i h q (node.Quantified o v a b) e =
    let p = quantified_at S i h o v a b e in ap depth p.tree ∙ q b p.body ∙ sym p.past

depth_below : {s : Places} {ns : List Node} {ss : List Sort} → Sorted s ns ss → (m i : ℕ) → i < m → i < length ns → depth (formula_tree s ns i) ≡ past_at ss i
depth_below S zero i l h = absurd (omega arith)
depth_below {s} {ns} {ss} S (suc m) i l h =
    depth_step S i h (λ a x. depth_below S m a (omega arith) (omega arith)) (node_at ns i) refl

pub tree_depth : {s : Places} {ns : List Node} {ss : List Sort} → Sorted s ns ss → (i : ℕ) → i < length ns → depth (formula_tree s ns i) ≡ past_at ss i
tree_depth S i h = depth_below S (suc i) i (omega arith) h

-- no node is deep in the past, or uses many variables, where none before it is or does
record Few (ss : List Sort) (i : ℕ) : Type 0 where
  pub past : past_at ss i ≤ most_past
  pub bound : bound_at ss i ≤ most_variables

few_step : {s : Places} {ns : List Node} {ss : List Sort} → Sorted s ns ss → (i : ℕ) → i < length ns → ((a : ℕ) → a < i → Few ss a) → (n : Node) → node_at ns i ≡ n → Few ss i
few_step S i h q (node.Relation r) e = let p = relation_at S i h r e in record { past = omega arith; bound = omega arith }
few_step S i h q (node.Variable v) e = let p = variable_at S i h v e in record { past = omega arith; bound = omega arith }
few_step S i h q (node.Constant c) e = let p = constant_at S i h c e in record { past = omega arith; bound = omega arith }
few_step S i h q (node.Turned t a) e =
    let p = turned_at S i h t a e in let f = q a p.before in record { past = omega arith; bound = omega arith }
few_step S i h q (node.Next a) e =
    let p = next_at S i h a e in let f = q a p.before in record { past = omega arith; bound = omega arith }
few_step S i h q (node.Combined o a b) e =
    let p = combined_at S i h o a b e in
    let f = q a p.left in
    let g = q b p.right in
    record { past = omega arith; bound = omega arith }
few_step S i h q (node.Tested o a) e =
    let p = tested_at S i h o a e in let f = q a p.before in record { past = omega arith; bound = omega arith }
few_step S i h q (node.Compared c a b) e =
    let p = compared_at S i h c a b e in
    let f = q a p.left in
    let g = q b p.right in
    record { past = omega arith; bound = omega arith }
few_step S i h q (node.Prefixed w a) e =
    let p = prefixed_at S i h w a e in let f = q a p.before in record { past = omega arith; bound = omega arith }
few_step S i h q (node.Joined w a b) e =
    let p = joined_at S i h w a b e in
    let f = q a p.left in
    let g = q b p.right in
    record { past = omega arith; bound = omega arith }
few_step S i h q (node.Quantified o v a b) e =
    let p = quantified_at S i h o v a b e in let f = q b p.body in record { past = omega arith; bound = omega arith }

few_below : {s : Places} {ns : List Node} {ss : List Sort} → Sorted s ns ss → (m i : ℕ) → i < m → i < length ns → Few ss i
few_below S zero i l h = absurd (omega arith)
few_below {s} {ns} {ss} S (suc m) i l h = few_step S i h (λ a x. few_below S m a (omega arith) (omega arith)) (node_at ns i) refl

pub past_few : {s : Places} {ns : List Node} {ss : List Sort} → Sorted s ns ss → (i : ℕ) → i < length ns → past_at ss i ≤ most_past
past_few S i h = (few_below S (suc i) i (omega arith) h).past

pub bound_few : {s : Places} {ns : List Node} {ss : List Sort} → Sorted s ns ss → (i : ℕ) → i < length ns → bound_at ss i ≤ most_variables
bound_few S i h = (few_below S (suc i) i (omega arith) h).bound
