-- No two tuples have the same place.
use Rattle.std.proofs.Common.{◌≡◌, ℕ, ◌+◌, ◌<◌, ◌≤◌, Bool, true, false, cond, ltb, List, length, get_or, take, Some, None, sum, Option, refl, ap, ◌∙◌, inl, inr, arith, ltb-true, MatchOption}
use Rattle.std.proofs.lemmas.List.{get_or_past, length-map, take-take}
use Rattle.std.proofs.lemmas.List.Sums.{sum_by_more, sum_by-take-le}
use Rattle.std.proofs.lemmas.Bool.{cases_lt, cases_order}
use Rattle.problem.specs.declared.problem.Problem.{Problem}
use Rattle.problem.specs.Problems.{atoms_in, relations_in, sizes_in}
use Rattle.relations.specs.Free.{declared_size}
use Rattle.relations.specs.Relations.{declared_of}
use Rattle.places.specs.declared.numbers.Tuple.{Tuple}
use Rattle.places.specs.Places.{before, place_count, place_of, place_of_tuple}

pub sizes_len : (p : Problem) → length (sizes_in p) ≡ length (relations_in p)
sizes_len p = length-map (relations_in p) (declared_size (length (atoms_in p)))

pub few_relations : (p : Problem) → length (relations_in p) ≤ 12
few_relations p =
    let d = p.draft.signature.declared in
    omega (arith, length-map d.relations.items declared_of, d.relations.ok.0, d.few_relations)

pub before_more : (ss : List ℕ) (i : ℕ) → i < length ss → before ss (i + 1) ≡ before ss i + get_or ss i 0
before_more ss i h = sum_by_more (λ x. x) ss i 0 h

-- a relation that has a tuple is one of the relations
pub within : (ss : List ℕ) (i t : ℕ) → t < get_or ss i 0 → i < length ss
within ss i t h = elim (cases_lt i (length ss)) [ inl l ↦ l | inr g ↦ absurd (omega (arith, get_or_past ss i 0 g)) ]

-- the places of an earlier relation stand before
pub earlier : (ss : List ℕ) (i j : ℕ) → i < length ss → i < j → before ss i + get_or ss i 0 ≤ before ss j
earlier ss i j l h =
    let e : take (i + 1) (take j ss) ≡ take (i + 1) ss = take-take (i + 1) j ss (omega arith) in
    let f : sum (take (i + 1) (take j ss)) ≡ before ss (i + 1) = ap sum e in
    omega (arith, before_more ss i l, f, sum_by-take-le (λ x. x) (take j ss) (i + 1))

pub inside : (ss : List ℕ) (i : ℕ) → i < length ss → before ss i + get_or ss i 0 ≤ place_count ss
inside ss i l = omega (arith, before_more ss i l, sum_by-take-le (λ x. x) ss (i + 1))

-- what it means to have a place
pub record Placed (ss : List ℕ) (i t p : ℕ) : Type 0 where
  pub under : t < get_or ss i 0
  pub number : before ss i + t ≡ p

some_inj : (x y : ℕ) → ◌≡◌ {A = Option ℕ} (Some x) (Some y) → x ≡ y
some_inj x y e = cc

placed_by : (ss : List ℕ) (i t p : ℕ) (b : Bool) → ltb t (get_or ss i 0) ≡ b → cond b (Some (before ss i + t)) None ≡ Some p → Placed ss i t p
placed_by ss i t p true h e = record { under = ltb-true _ _ h; number = some_inj _ _ e }
placed_by ss i t p false h e = absurd (let z : ◌≡◌ {A = ℕ} 0 1 = cc in omega arith)

pub place_inv : (ss : List ℕ) (i t p : ℕ) → place_of ss i t ≡ Some p → Placed ss i t p
place_inv ss i t p e = placed_by ss i t p (ltb t (get_or ss i 0)) refl e

same_tuple : (t u : Tuple) → t.relation ≡ u.relation → t.tuple ≡ u.tuple → t ≡ u
same_tuple t u e f =
    let at : ℕ → ℕ → Tuple = λ x y. record { relation = x; tuple = y } in
    ap (λ x. at x t.tuple) e ∙ ap (λ y. at u.relation y) f

pub unique : (ss : List ℕ) (t u : Tuple) (p : ℕ) → place_of_tuple ss t ≡ Some p → place_of_tuple ss u ≡ Some p → t ≡ u
unique ss t u p e f =
    let a = place_inv ss t.relation t.tuple p e in
    let b = place_inv ss u.relation u.tuple p f in
    let la : t.relation < length ss = within ss t.relation t.tuple a.under in
    let lb : u.relation < length ss = within ss u.relation u.tuple b.under in
    elim (cases_order t.relation u.relation) [
      | inl same ↦ same_tuple t u same (omega (arith, ap (before ss) same, a.number, b.number))
      | inr other ↦ elim other [
        | inl less ↦ absurd (omega (arith, earlier ss t.relation u.relation la less, a.under, a.number, b.number))
        | inr more ↦ absurd (omega (arith, earlier ss u.relation t.relation lb more, b.under, a.number, b.number))
      ]
    ]

pub exact_from : (ss : List ℕ) (p : ℕ) (r : Option Tuple) → MatchOption r (place_count ss ≤ p) (λ t. place_of_tuple ss t ≡ Some p) → (t : Tuple) → place_of_tuple ss t ≡ Some p → r ≡ Some t
exact_from ss p None h t e =
    let a = place_inv ss t.relation t.tuple p e in
    absurd (omega (arith, inside ss t.relation (within ss t.relation t.tuple a.under), a.under, a.number, h))
exact_from ss p (Some u) h t e = ap Some (unique ss u t p h e)
