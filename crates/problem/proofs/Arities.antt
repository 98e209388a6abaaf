-- Each expression of a draft has an arity: relations, variables and constants have one, and each sign makes one of those of its parts.
use Rattle.std.proofs.Common.{◌≡◌, ℕ, zero, suc, ◌+◌, ◌<◌, ◌≤◌, true, false, List, [], ◌∷◌, length, take, slice_get, slice_index, Ok, sym, refl, ap, ◌∙◌, subst, arith, leb-true, get_or-take, length-take}
use Rattle.std.proofs.lemmas.Bool.{and_parts}
use Rattle.std.proofs.lemmas.List.{length-map}
use Rattle.problem.specs.declared.node.Node.{Node}
use Rattle.problem.specs.declared.node.Node.TheVariants as node
use Rattle.problem.specs.declared.node.Constant.{Constant}
use Rattle.problem.specs.declared.node.Constant.TheVariants as constants
use Rattle.problem.specs.declared.node.Operator.{Operator}
use Rattle.problem.specs.declared.node.Operator.TheVariants as operator
use Rattle.relations.specs.declared.relation.Arity.{Arity}
use Rattle.relations.specs.declared.relation.Arity.TheVariants as relation_arity
use Rattle.problem.specs.declared.sort.Sort.{Sort}
use Rattle.problem.specs.declared.draft.Draft.{Draft}
use Rattle.relations.specs.Relations.{Declared, arity_number}
use Rattle.relations.specs.Declarations.{relations_of, arities}
use Rattle.problem.specs.Sorts.{part_node, part_sort, sort_arity, is_expression, formula, constant_arity, suits, outcome, prefix_past, infix_past, judge, Judged, no_sort, node_at, sort_at, arity_at}
use Rattle.problem.specs.Sorts as sorts
use Rattle.problem.specs.Drafts.{nodes_of, sorts_of, arities_of}
use Rattle.problem.proofs.Inversions.{found_inv, part_in, parts_in, ok_inv, relation_inv, fits, turned_inv, next_inv, tested_inv, combined_inv, compared_inv, prefixed_inv, joined_inv, quantified_inv}

number_some : (a : Arity) → 0 < arity_number a
number_some relation_arity.One = omega arith
number_some relation_arity.Two = omega arith

relation_some : (rs : List Declared) (r : ℕ) → r < length (arities rs) → 0 < slice_index (arities rs) r
relation_some [] r h = absurd (omega arith)
relation_some (d ∷ rs) zero h = number_some d.arity
relation_some (d ∷ rs) (suc r) h = relation_some rs r (omega arith)

constant_some : (c : Constant) → 0 < constant_arity c
constant_some constants.Univ = omega arith
constant_some constants.None = omega arith
constant_some constants.Iden = omega arith

outcome_some : (o : Operator) (x y : ℕ) → 0 < x → 0 < y → suits o x y ≡ true → 0 < outcome o x y
outcome_some operator.Union x y h k e = h
outcome_some operator.Difference x y h k e = h
outcome_some operator.Intersection x y h k e = h
outcome_some operator.Product x y h k e = omega arith
outcome_some operator.Join x y h k e = let low : 3 ≤ x + y = leb-true _ _ (and_parts _ _ e).0 in omega arith

-- an expression has an arity
abbrev pub Sized : Sort → Type 0
Sized s = is_expression s ≡ true → 0 < sort_arity s

-- a formula is no expression
formula_sized : (s : Sort) (p b : ℕ) → s ≡ formula p b → Sized s
formula_sized s p b e k = let f : is_expression s ≡ false = ap is_expression e in absurd (cc)

-- a node has an arity, where those of the nodes before it have, and so have the relations
node_sized : (rs : List ℕ) (ss : List Sort) → ((r : ℕ) → r < length rs → 0 < slice_index rs r) → ((a : ℕ) → a < length ss → Sized (sort_at ss a)) → (n : Node) (s : Sort) → judge rs ss n ≡ Ok s → Sized s
node_sized rs ss own q (node.Relation r) s e k =
    let p = relation_inv rs r (slice_get rs r) s refl e in omega (arith, own r p.declared, ap sort_arity p.same)
node_sized rs ss own q (node.Variable v) s e k = let p = fits _ (sorts.expression 1 (suc v)) s _ e in omega (arith, ap sort_arity p.same)
node_sized rs ss own q (node.Constant c) s e k =
    omega (arith, constant_some c, ap sort_arity (ok_inv (sorts.expression (constant_arity c) 0) s e))
node_sized rs ss own q (node.Turned t a) s e k =
    let p = turned_inv (sort_at ss a) s (part_in ss a sorts.turned_sort s e).rest in omega (arith, ap sort_arity p.same)
node_sized rs ss own q (node.Next a) s e k =
    let p = part_in ss a sorts.next_sort s e in
    let f = next_inv (sort_at ss a) s p.rest in
    omega (arith, q a p.within f.some, ap sort_arity f.same)
node_sized rs ss own q (node.Combined o a b) s e k =
    let p = parts_in ss a b (sorts.combined o) s e in
    let f = combined_inv o (sort_at ss a) (sort_at ss b) s p.rest in
    omega (arith, outcome_some o (arity_at ss a) (arity_at ss b) (q a p.left f.left) (q b p.right f.right) f.suited, ap sort_arity f.same)
node_sized rs ss own q (node.Tested o a) s e k =
    formula_sized s _ _ (tested_inv (sort_at ss a) s (part_in ss a sorts.tested_sort s e).rest).same k
node_sized rs ss own q (node.Compared c a b) s e k =
    formula_sized s _ _ (compared_inv (sort_at ss a) (sort_at ss b) s (parts_in ss a b sorts.compared s e).rest).same k
node_sized rs ss own q (node.Prefixed w a) s e k =
    formula_sized s _ _ (prefixed_inv (prefix_past w) (sort_at ss a) s (part_in ss a (sorts.prefixed (prefix_past w)) s e).rest).shallow.same k
node_sized rs ss own q (node.Joined w a b) s e k =
    formula_sized s _ _ (joined_inv (infix_past w) (sort_at ss a) (sort_at ss b) s (parts_in ss a b (sorts.joined (infix_past w)) s e).rest).shallow.same k
node_sized rs ss own q (node.Quantified o v a b) s e k =
    formula_sized s _ _ (quantified_inv v (sort_at ss a) (sort_at ss b) s (parts_in ss a b (sorts.quantified v) s e).rest).same k

sized_below : (rs : List ℕ) (ns : List Node) (ss : List Sort) → length ss ≡ length ns → Judged rs ns ss → ((r : ℕ) → r < length rs → 0 < slice_index rs r) → (m i : ℕ) → i < m → i < length ns → Sized (sort_at ss i)
sized_below rs ns ss even J own zero i l h = absurd (omega arith)
sized_below rs ns ss even J own (suc m) i l h =
    node_sized rs (take i ss) own
    (λ a x.
    let near : a < i = omega (arith, x, length-take i ss) in
    subst Sized (sym (get_or-take i ss a no_sort near)) (sized_below rs ns ss even J own m a (omega arith) (omega arith)))
    (node_at ns i) (sort_at ss i) (found_inv (judge rs (take i ss) (node_at ns i)) (sort_at ss i) (J i h))

-- each expression of a draft has an arity
pub sized_in : (d : Draft) (i : ℕ) → i < length (nodes_of d) → Sized (sort_at (sorts_of d) i)
sized_in d i h =
    sized_below (arities_of d) (nodes_of d) (sorts_of d) (length-map d.parts.items part_sort ∙ sym (length-map d.parts.items part_node)) d.judged (relation_some (relations_of d.signature.declared)) (suc i) i (omega arith) h

-- so has a node that is put at its end
pub put_sized : (d : Draft) (n : Node) (s : Sort) → judge (arities_of d) (sorts_of d) n ≡ Ok s → Sized s
put_sized d n s e =
    node_sized (arities_of d) (sorts_of d) (relation_some (relations_of d.signature.declared)) (λ a h. sized_in d a (omega (arith, h, length-map d.parts.items part_sort, length-map d.parts.items part_node))) n s e
