-- What each node is found to be, one node more at a time.
use Rattle.std.proofs.Common.{◌≡◌, ℕ, zero, suc, ◌+◌, ◌<◌, ◌≤◌, Bool, true, false, ◌&&◌, leb, List, [], ◌∷◌, ◌++◌, length, map, take, Ok, Err, Result, sym, refl, ap, ◌∙◌, subst, inl, inr, arith, eq-eqb, leb-true, lt-ltb}
use Rattle.std.proofs.lemmas.Bool.{cases_lt, and_parts}
use Rattle.std.proofs.lemmas.List.{take-append-le, take_at, get_or_append_left, get_or_push, length_push, length-map, map_push}
use Rattle.std.specs.List.{slice_get}
use Rattle.std.specs.Option.{option_map_or}
use Rattle.problem.specs.declared.node.Node.{Node}
use Rattle.problem.specs.declared.node.Node.TheVariants as node
use Rattle.problem.specs.declared.sort.Sort.{Sort}
use Rattle.problem.specs.declared.sort.Sort.TheVariants as sort
use Rattle.problem.specs.declared.sort.Kind.{Kind}
use Rattle.problem.specs.declared.sort.Kind.TheVariants as kind
use Rattle.problem.specs.declared.sort.Misfit.{Misfit}
use Rattle.problem.specs.declared.part.Part.{Part}
use Rattle.problem.specs.declared.draft.Draft.{Draft}
use Rattle.problem.specs.Sorts.{part_node, part_sort, judge, found, node_at, sort_at, no_sort, Judged, arity_at, sort_arity, sort_bound, of_kind, arity_of_kind, arity_found, wanted}
use Rattle.problem.specs.Drafts.{sorts_of, arities_of}
use Rattle.problem.proofs.Arities.{Sized, put_sized}
use Rattle.problem.proofs.Inversions.{fits}

both : (a b : Bool) → a ≡ true → b ≡ true → (a && b) ≡ true
both true b p q = q
both false b p q = p

pub found_self : (s : Sort) → found (Ok s) s ≡ true
found_self (sort.Expression a b) = both _ _ (eq-eqb a a refl) (eq-eqb b b refl)
found_self (sort.Formula p b) = both _ _ (eq-eqb p p refl) (eq-eqb b b refl)

judged_more : (rs : List ℕ) (ns : List Node) (ss : List Sort) (n : Node) (s : Sort) → length ss ≡ length ns → Judged rs ns ss → judge rs ss n ≡ Ok s → Judged rs (ns ++ n ∷ []) (ss ++ s ∷ [])
judged_more rs ns ss n s e J j i h =
    let ns' : List Node = ns ++ n ∷ [] in
    let ss' : List Sort = ss ++ s ∷ [] in
    let near : i < length ns + 1 = omega (arith, length_push ns n, h) in
    elim (cases_lt i (length ns)) [
      | inl lt ↦ ap (λ x. found (judge rs x (node_at ns' i)) (sort_at ss' i)) (take-append-le i ss (s ∷ []) (omega arith))
          ∙ ap (λ x. found (judge rs (take i ss) x) (sort_at ss' i)) (get_or_append_left ns (n ∷ []) (node.Relation 0) i lt)
          ∙ ap (λ x. found (judge rs (take i ss) (node_at ns i)) x) (get_or_append_left ss (s ∷ []) no_sort i (omega arith))
          ∙ J i lt
      | inr ge ↦ ap (λ x. found (judge rs x (node_at ns' i)) (sort_at ss' i)) (take_at ss (s ∷ []) i (omega arith))
          ∙ ap (λ x. found (judge rs ss x) (sort_at ss' i)) (get_or_push ns n (node.Relation 0) i (omega arith))
          ∙ ap (λ x. found (judge rs ss n) x) (get_or_push ss s no_sort i (omega arith))
          ∙ ap (λ x. found x s) j
          ∙ found_self s
    ]

pub judged_parts : (rs : List ℕ) (ps : List Part) (p : Part) → Judged rs (map part_node ps) (map part_sort ps) → judge rs (map part_sort ps) p.node ≡ Ok p.sort → Judged rs (map part_node (ps ++ p ∷ [])) (map part_sort (ps ++ p ∷ []))
judged_parts rs ps p J e =
    let K = judged_more rs (map part_node ps) (map part_sort ps) p.node p.sort (length-map ps part_sort ∙ sym (length-map ps part_node)) J e in
    let L = subst (λ (ss : List Sort). Judged rs (map part_node ps ++ p.node ∷ []) ss) (sym (map_push part_sort ps p)) K in
    subst (λ (ns : List Node). Judged rs ns (map part_sort (ps ++ p ∷ []))) (sym (map_push part_node ps p)) L

pub record Wanted (k : Kind) (b : ℕ) (j : Result Sort Misfit) (s : Sort) : Type 0 where
  pub judged : j ≡ Ok s
  pub is_of_kind : of_kind k s ≡ true
  pub few : sort_bound s ≤ b

pub wanted_inv : (k : Kind) (b : ℕ) (j : Result Sort Misfit) (s : Sort) → wanted k b j ≡ Ok s → Wanted k b j s
wanted_inv k b (Ok t) s e =
    let f = fits (of_kind k t && leb (sort_bound t) b) t s _ e in
    let z = and_parts _ _ f.met in
    record {
      judged = ap Ok (sym f.same);
      is_of_kind = ap (of_kind k) f.same ∙ z.0;
      few = leb-true _ _ (ap (λ (x : Sort). leb (sort_bound x) b) f.same ∙ z.1);
    }
wanted_inv k b (Err m) s e = absurd (let z : ◌≡◌ {A = ℕ} 0 1 = cc in omega arith)

-- a sort of a kind has the arity of that kind, where expressions have one
kind_arity : (k : Kind) (s : Sort) → of_kind k s ≡ true → Sized s → arity_of_kind k s ≡ true
kind_arity kind.Formula (sort.Expression a b) e z = absurd (cc)
kind_arity kind.Formula (sort.Formula p b) e z = refl
kind_arity kind.Expression (sort.Expression a b) e z = lt-ltb 0 a (z refl)
kind_arity kind.Expression (sort.Formula p b) e z = absurd (cc)

-- what a node at the end of a draft is found to be has an arity of the kind that is wanted
wanted_arity : (k : Kind) (b : ℕ) (n : Node) (d : Draft) (r : Result Sort Misfit) → wanted k b (judge (arities_of d) (sorts_of d) n) ≡ r → arity_found k r ≡ true
wanted_arity k b n d (Ok s) e =
    let w = wanted_inv k b (judge (arities_of d) (sorts_of d) n) s e in
    kind_arity k s w.is_of_kind (put_sized d n s w.judged)
wanted_arity k b n d (Err m) e = refl

pub arity_made : (k : Kind) (b : ℕ) (n : Node) (d : Draft) → arity_found k (wanted k b (judge (arities_of d) (sorts_of d) n)) ≡ true
arity_made k b n d = wanted_arity k b n d _ refl

pub arity_known : (ss : List Sort) (i : ℕ) → arity_at ss i ≡ option_map_or sort_arity (slice_get ss i) 0
arity_known [] i = refl
arity_known (s ∷ ss) zero = refl
arity_known (s ∷ ss) (suc i) = arity_known ss i
