-- The state at an instant, all instants long.
use Rattle.std.proofs.Common.{◌≡◌, ℕ, zero, suc, ◌+◌, ◌-◌, ◌%◌, ◌<◌, ◌≤◌, eqb, ltb, sym, refl, ap, ◌∙◌, ⊎_elim, mod-eq_of_lt, add-one, arith}
use native.Mathlib.Nat.{add-mod_right}
use Rattle.std.proofs.lemmas.Bool.{cases_lt, cases_eq, cond-true, cond-false, eq-eqb, ne_eqb, lt-ltb, le-ltb}
use Rattle.lasso.specs.Lassos.{following, state_at, after_rounds, Endless}

-- the last state is followed by the loop start, each other by the next one
pub following_last : (k l s : ℕ) → suc s ≡ k → following k l s ≡ l
following_last k l s e = cond-true (eqb (suc s) k) l (suc s) (eq-eqb (suc s) k e)

pub following_next : (k l s : ℕ) → suc s < k → following k l s ≡ suc s
following_next k l s h = cond-false (eqb (suc s) k) l (suc s) (ne_eqb (suc s) k (omega arith))

pub state_at_first : (k l i : ℕ) → i < k → state_at k l i ≡ i
unfolding state_at
state_at_first k l zero h = refl
state_at_first k l (suc i) h = ap (following k l) (state_at_first k l i (omega arith)) ∙ following_next k l i h

pub state_at_below : (k l i : ℕ) → l < k → state_at k l i < k
unfolding state_at
state_at_below k l zero h = omega arith
state_at_below k l (suc i) h =
    let s : ℕ = state_at k l i in
    let b : s < k = state_at_below k l i h in
    ⊎_elim
    (λ e. omega (arith, following_last k l s e))
    (λ n. omega (arith, following_next k l s (omega arith)))
    (cases_eq (suc s) k)

-- at the instant k the loop start comes again
state_at_back : (k l : ℕ) → l < k → state_at k l k ≡ l
unfolding state_at
state_at_back zero l h = absurd (omega arith)
state_at_back (suc j) l h = ap (following (suc j) l) (state_at_first (suc j) l j (omega arith)) ∙ following_last (suc j) l j refl

again_from : (k l n : ℕ) → l < k → state_at k l ((l + n) + (k - l)) ≡ state_at k l (l + n)
unfolding state_at
again_from k l zero h =
    let a : (l + 0) + (k - l) ≡ k = omega arith in
    let b : l + 0 ≡ l = omega arith in
    ap (state_at k l) a ∙ state_at_back k l h ∙ sym (state_at_first k l l h) ∙ ap (state_at k l) (sym b)
again_from k l (suc n) h =
    let a : (l + suc n) + (k - l) ≡ suc ((l + n) + (k - l)) = omega arith in
    let b : l + suc n ≡ suc (l + n) = omega arith in
    ap (state_at k l) a ∙ ap (following k l) (again_from k l n h) ∙ ap (state_at k l) (sym b)

pub state_at_again : (k l i : ℕ) → l < k → l ≤ i → state_at k l (i + (k - l)) ≡ state_at k l i
state_at_again k l i h m =
    let e : l + (i - l) ≡ i = omega arith in
    ap (λ j. state_at k l (j + (k - l))) (sym e) ∙ again_from k l (i - l) h ∙ ap (state_at k l) e

pub endless : (k l : ℕ) → l < k → Endless k l
unfolding state_at
endless k l h = record {
  inside = λ i. state_at_below k l i h;
  first = λ i b. state_at_first k l i b;
  follows = λ i. ap (state_at k l) (add-one i);
  again = λ i m. state_at_again k l i h m;
}

by_rounds : (k l n i : ℕ) → l < k → l ≤ i → i < n → state_at k l i ≡ l + (i - l) % (k - l)
by_rounds k l zero i h m b = absurd (omega arith)
by_rounds k l (suc n) i h m b =
    ⊎_elim
    (λ lo.
    let small : i - l < k - l = omega arith in
    let e : (i - l) % (k - l) ≡ i - l = mod-eq_of_lt small in
    state_at_first k l i lo ∙ omega arith)
    (λ hi.
    let p : ℕ = k - l in
    let j : ℕ = i - p in
    let e : j + p ≡ i = omega arith in
    let d : (j - l) + p ≡ i - l = omega arith in
    ap (state_at k l) (sym e) ∙ state_at_again k l j h (omega arith) ∙ by_rounds k l n j h (omega arith) (omega arith)
    ∙ ap (λ r. l + r) (sym (add-mod_right (j - l) p) ∙ ap (λ a. a % p) d))
    (cases_lt i k)

pub rounds_state_at : (k l i : ℕ) → l < k → after_rounds k l i ≡ state_at k l i
rounds_state_at k l i h =
    ⊎_elim
    (λ lo. cond-true (ltb i k) i (l + (i - l) % (k - l)) (lt-ltb i k lo) ∙ sym (state_at_first k l i lo))
    (λ hi. cond-false (ltb i k) i (l + (i - l) % (k - l)) (le-ltb i k hi) ∙ sym (by_rounds k l (suc i) i h (omega arith) (omega arith)))
    (cases_lt i k)
