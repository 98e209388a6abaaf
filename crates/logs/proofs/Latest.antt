-- The value of a place is what its latest mark says.
use Rattle.std.proofs.Common.{◌≡◌, ℕ, zero, suc, ◌+◌, ◌<◌, eqb, ltb, ◌⊎◌, List, [], ◌∷◌, ◌++◌, take, sym, refl, ap, ◌∙◌, subst, inl, inr, ⊎_elim, arith}
use Rattle.std.specs.List.{flat_map}
use Rattle.std.proofs.lemmas.Bool.{cases_eq, cond-true, cond-false, eq-eqb, ne_eqb, lt-ltb}
use Rattle.lasso.specs.declared.value.Value.{Value}
use Rattle.lasso.specs.declared.value.Value.TheVariants.{Open}
use Rattle.logs.specs.Logs.{place_of, Said}
use Rattle.logs.specs.Meanings.{mark, latest, latest_of, known, NoMark, LastMark, FromLatest, marks_to}

latest_append : (p : ℕ) (v : Value) (xs ys : List ℕ) → latest p v (xs ++ ys) ≡ latest p (latest p v xs) ys
latest_append p v [] ys = refl
latest_append p v (x ∷ xs) ys = latest_append p (mark p v x) xs ys

latest_of_joined : (p : ℕ) (v : Value) (rows : List (List ℕ)) → latest_of p v rows ≡ latest p v (flat_map (λ ms. ms) rows)
latest_of_joined p v [] = refl
latest_of_joined p v (ms ∷ rows) = latest_of_joined p (latest p v ms) rows ∙ sym (latest_append p v ms (flat_map (λ ms. ms) rows))

none_first : (p m : ℕ) (ms : List ℕ) → (place_of m ≡ p → ⊥) → NoMark p ms → NoMark p (m ∷ ms)
none_first p m ms other none zero h e = other e
none_first p m ms other none (suc k) h e = none k (omega arith) e

behind : (p m : ℕ) (ms : List ℕ) (v : Value) → LastMark p ms v → LastMark p (m ∷ ms) v
behind p m ms v l = record { earlier = m ∷ l.earlier; last = l.last; later = l.later; split = ap (λ z. m ∷ z) l.split; here = l.here; none_later = l.none_later; value = l.value }

-- after some marks a place has what its last mark says, and without one what it had
after : (p : ℕ) (v : Value) (ms : List ℕ) → (NoMark p ms × (latest p v ms ≡ v)) ⊎ LastMark p ms (latest p v ms)
after p v [] = inl (λ k h e. absurd (omega arith), refl)
after p v (m ∷ ms) =
    ⊎_elim
    (λ x. ⊎_elim
    (λ here. inr (record { earlier = []; last = m; later = ms; split = refl; here = here; none_later = x.0; value = x.1 ∙ cond-true (eqb (place_of m) p) _ _ (eq-eqb (place_of m) p here) }))
    (λ no. inl (none_first p m ms no x.0, x.1 ∙ cond-false (eqb (place_of m) p) _ _ (ne_eqb (place_of m) p no)))
    (cases_eq (place_of m) p))
    (λ l. inr (behind p m ms _ l))
    (after p (mark p v m) ms)

pub from_latest : (p : ℕ) (d : Said) (i : ℕ) → i < d.instants → FromLatest p (marks_to d i) (known d p i)
from_latest p d i h =
    let e : known d p i ≡ latest p Open (marks_to d i) = cond-true (ltb i d.instants) _ _ (lt-ltb i d.instants h) ∙ latest_of_joined p Open (take (i + 1) d.marks) in
    subst (FromLatest p (marks_to d i)) (sym e) (after p Open (marks_to d i))
