-- What a node is made of, where it is found to be of a sort: the definitions of sorts, read backwards.
use Rattle.std.proofs.Common.{◌≡◌, ℕ, suc, ◌+◌, ◌<◌, ◌≤◌, max, Bool, true, false, cond, List, length, slice_get, slice_index, Some, None, Ok, Err, Option, Result, sym, refl, ap, ap₂, ◌∙◌, eqb-true, ltb-true, leb-true}
use Rattle.std.proofs.lemmas.Bool.{and_parts}
use Rattle.std.proofs.lemmas.Option.{slice_get_within, get_or_from_slice_get}
use Rattle.problem.specs.declared.node.Operator.{Operator}
use Rattle.problem.specs.declared.sort.Sort.{Sort}
use Rattle.problem.specs.declared.sort.Sort.TheVariants as sort
use Rattle.problem.specs.declared.sort.Misfit.{Misfit}
use Rattle.problem.specs.Sorts.{most_past, most_variables, sort_arity, sort_past, sort_bound, is_expression, is_formula, expression, formula, from, suits, outcome, shallow, relation_sort, found, sort_at, no_sort}
use Rattle.problem.specs.Sorts as sorts

pub record Fits (b : Bool) (x y : Sort) : Type 0 where
  pub met : b ≡ true
  pub same : y ≡ x

pub fits : (b : Bool) (x y : Sort) (m : Misfit) → cond b (Ok x) (Err m) ≡ Ok y → Fits b x y
fits true x y m e = record { met = refl; same = cc }
fits false x y m e = absurd (cc)

pub found_inv : (r : Result Sort Misfit) (t : Sort) → found r t ≡ true → r ≡ Ok t
found_inv (Ok (sort.Expression a b)) (sort.Expression c d) e =
    let z = and_parts _ _ e in ap₂ (λ x y. Ok (expression x y)) (eqb-true _ _ z.0) (eqb-true _ _ z.1)
found_inv (Ok (sort.Expression a b)) (sort.Formula q d) e = absurd (cc)
found_inv (Ok (sort.Formula p b)) (sort.Expression c d) e = absurd (cc)
found_inv (Ok (sort.Formula p b)) (sort.Formula q d) e =
    let z = and_parts _ _ e in ap₂ (λ x y. Ok (formula x y)) (eqb-true _ _ z.0) (eqb-true _ _ z.1)
found_inv (Err m) t e = absurd (cc)

pub from_inv : (o : Option Sort) (k : Sort → Result Sort Misfit) (t : Sort) → from o k ≡ Ok t → (x : Sort) × (o ≡ Some x) × (k x ≡ Ok t)
from_inv None k t e = absurd (cc)
from_inv (Some x) k t e = (x, refl, e)

-- a part that is found stands in the list
pub record PartIn (ss : List Sort) (a : ℕ) (k : Sort → Result Sort Misfit) (t : Sort) : Type 0 where
  pub within : a < length ss
  pub rest : k (sort_at ss a) ≡ Ok t

pub part_in : (ss : List Sort) (a : ℕ) (k : Sort → Result Sort Misfit) (t : Sort) → from (slice_get ss a) k ≡ Ok t → PartIn ss a k t
part_in ss a k t e =
    let f = from_inv (slice_get ss a) k t e in
    record {
      within = slice_get_within ss a f.0 f.1;
      rest = ap k (get_or_from_slice_get ss a f.0 no_sort f.1) ∙ f.2;
    }

pub record PartsIn (ss : List Sort) (a b : ℕ) (k : Sort → Sort → Result Sort Misfit) (t : Sort) : Type 0 where
  pub left : a < length ss
  pub right : b < length ss
  pub rest : k (sort_at ss a) (sort_at ss b) ≡ Ok t

pub parts_in : (ss : List Sort) (a b : ℕ) (k : Sort → Sort → Result Sort Misfit) (t : Sort) → from (slice_get ss a) (λ x. from (slice_get ss b) (λ y. k x y)) ≡ Ok t → PartsIn ss a b k t
parts_in ss a b k t e =
    let f = part_in ss a (λ x. from (slice_get ss b) (λ y. k x y)) t e in
    let g = part_in ss b (λ y. k (sort_at ss a) y) t f.rest in
    record { left = f.within; right = g.within; rest = g.rest }

pub ok_inv : (x y : Sort) → ◌≡◌ {A = Result Sort Misfit} (Ok x) (Ok y) → y ≡ x
ok_inv x y e = cc

pub record OfRelation (rs : List ℕ) (r : ℕ) (t : Sort) : Type 0 where
  pub declared : r < length rs
  pub same : t ≡ expression (slice_index rs r) 0

pub relation_inv : (rs : List ℕ) (r : ℕ) (o : Option ℕ) (t : Sort) → slice_get rs r ≡ o → relation_sort o ≡ Ok t → OfRelation rs r t
relation_inv rs r None t e f = absurd (cc)
relation_inv rs r (Some a) t e f =
    let g : t ≡ expression a 0 = cc in
    record {
      declared = slice_get_within rs r a e;
      same = g ∙ ap (λ x. expression x 0) (sym (get_or_from_slice_get rs r a 0 e));
    }

-- what a part has to be, and what comes of it
pub record OfTurned (x t : Sort) : Type 0 where
  pub some : is_expression x ≡ true
  pub pairs : sort_arity x ≡ 2
  pub same : t ≡ expression 2 (sort_bound x)

pub turned_inv : (x t : Sort) → sorts.turned_sort x ≡ Ok t → OfTurned x t
turned_inv (sort.Expression a b) t e =
    let f = fits _ (expression 2 b) t _ e in record { some = refl; pairs = eqb-true _ _ f.met; same = f.same }
turned_inv (sort.Formula p b) t e = absurd (cc)

pub record OfNext (x t : Sort) : Type 0 where
  pub some : is_expression x ≡ true
  pub same : t ≡ expression (sort_arity x) (sort_bound x)

pub next_inv : (x t : Sort) → sorts.next_sort x ≡ Ok t → OfNext x t
next_inv (sort.Expression a b) t e = record { some = refl; same = ok_inv _ _ e }
next_inv (sort.Formula p b) t e = absurd (cc)

pub record OfTested (x t : Sort) : Type 0 where
  pub some : is_expression x ≡ true
  pub same : t ≡ formula 0 (sort_bound x)

pub tested_inv : (x t : Sort) → sorts.tested_sort x ≡ Ok t → OfTested x t
tested_inv (sort.Expression a b) t e = record { some = refl; same = ok_inv _ _ e }
tested_inv (sort.Formula p b) t e = absurd (cc)

pub record OfCombined (o : Operator) (x y t : Sort) : Type 0 where
  pub left : is_expression x ≡ true
  pub right : is_expression y ≡ true
  pub suited : suits o (sort_arity x) (sort_arity y) ≡ true
  pub same : t ≡ expression (outcome o (sort_arity x) (sort_arity y)) (max (sort_bound x) (sort_bound y))

pub combined_inv : (o : Operator) (x y t : Sort) → sorts.combined o x y ≡ Ok t → OfCombined o x y t
combined_inv o (sort.Expression a b) (sort.Expression c d) t e =
    let f = fits _ (expression (outcome o a c) (max b d)) t _ e in
    record { left = refl; right = refl; suited = f.met; same = f.same }
combined_inv o (sort.Expression a b) (sort.Formula q d) t e = absurd (cc)
combined_inv o (sort.Formula p b) y t e = absurd (cc)

pub record OfCompared (x y t : Sort) : Type 0 where
  pub left : is_expression x ≡ true
  pub right : is_expression y ≡ true
  pub alike : sort_arity x ≡ sort_arity y
  pub same : t ≡ formula 0 (max (sort_bound x) (sort_bound y))

pub compared_inv : (x y t : Sort) → sorts.compared x y ≡ Ok t → OfCompared x y t
compared_inv (sort.Expression a b) (sort.Expression c d) t e =
    let f = fits _ (formula 0 (max b d)) t _ e in
    record { left = refl; right = refl; alike = eqb-true _ _ f.met; same = f.same }
compared_inv (sort.Expression a b) (sort.Formula q d) t e = absurd (cc)
compared_inv (sort.Formula p b) y t e = absurd (cc)

pub record Shallow (x t : Sort) : Type 0 where
  pub few : sort_past x ≤ most_past
  pub same : t ≡ x

pub shallow_inv : (x t : Sort) → shallow x ≡ Ok t → Shallow x t
shallow_inv x t e = let f = fits _ x t _ e in record { few = leb-true _ _ f.met; same = f.same }

pub record OfPrefixed (d : ℕ) (x t : Sort) : Type 0 where
  pub part : is_formula x ≡ true
  pub shallow : Shallow (formula (sort_past x + d) (sort_bound x)) t

pub prefixed_inv : (d : ℕ) (x t : Sort) → sorts.prefixed d x ≡ Ok t → OfPrefixed d x t
prefixed_inv d (sort.Expression a b) t e = absurd (cc)
prefixed_inv d (sort.Formula p b) t e = record { part = refl; shallow = shallow_inv _ t e }

pub record OfJoined (d : ℕ) (x y t : Sort) : Type 0 where
  pub left : is_formula x ≡ true
  pub right : is_formula y ≡ true
  pub shallow : Shallow (formula (max (sort_past x) (sort_past y) + d) (max (sort_bound x) (sort_bound y))) t

pub joined_inv : (d : ℕ) (x y t : Sort) → sorts.joined d x y ≡ Ok t → OfJoined d x y t
joined_inv d (sort.Expression a b) y t e = absurd (cc)
joined_inv d (sort.Formula p b) (sort.Expression c e) t f = absurd (cc)
joined_inv d (sort.Formula p b) (sort.Formula q c) t e = record { left = refl; right = refl; shallow = shallow_inv _ t e }

pub record OfQuantified (v : ℕ) (x y t : Sort) : Type 0 where
  pub domain : is_expression x ≡ true
  pub body : is_formula y ≡ true
  pub atoms : sort_arity x ≡ 1
  pub few : v < most_variables
  pub domain_bound : sort_bound x ≤ v
  pub body_bound : sort_bound y ≤ suc v
  pub same : t ≡ formula (sort_past y) v

pub quantified_inv : (v : ℕ) (x y t : Sort) → sorts.quantified v x y ≡ Ok t → OfQuantified v x y t
quantified_inv v (sort.Expression a b) (sort.Expression c d) t e = absurd (cc)
quantified_inv v (sort.Expression a b) (sort.Formula p c) t e =
    let f = fits _ (formula p v) t _ e in
    let x = and_parts _ _ f.met in
    let y = and_parts _ _ x.1 in
    let z = and_parts _ _ y.1 in
    record {
      domain = refl;
      body = refl;
      atoms = eqb-true _ _ x.0;
      few = ltb-true _ _ z.1;
      domain_bound = leb-true _ _ y.0;
      body_bound = leb-true _ _ z.0;
      same = f.same;
    }
quantified_inv v (sort.Formula p b) y t e = absurd (cc)
