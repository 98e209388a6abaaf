-- The paths that the sources mean.
use Rattle.std.proofs.Common.{◌≡◌, ℕ, zero, suc, ◌+◌, ◌-◌, ◌<◌, ◌≤◌, cond, ◌&&◌, ltb, sym, refl, ap, ◌∙◌, ⊎_elim, arith}
use Rattle.std.proofs.lemmas.Bool.{cases_lt, cond-true, cond-false, and_from, and_left, and_right, lt-ltb, le-ltb}
use Rattle.lasso.specs.declared.value.Value.{Value}
use Rattle.lasso.specs.declared.value.Value.TheVariants.{Open}
use Rattle.lasso.specs.Lassos.{state_at}
use Rattle.lasso.proofs.Folds.{state_at_first, state_at_below, state_at_again}
use Rattle.source.specs.Meanings.{Means}

-- in a lasso whose last state follows itself, that state comes and stays
last_stays : (m n : ℕ) → state_at (m + 1) m (m + n) ≡ m
last_stays m zero =
    let e : m + 0 ≡ m = omega arith in
    ap (state_at (m + 1) m) e ∙ state_at_first (m + 1) m m (omega arith)
last_stays m (suc n) =
    let e : m + suc n ≡ (m + n) + ((m + 1) - m) = omega arith in
    ap (state_at (m + 1) m) e ∙ state_at_again (m + 1) m (m + n) (omega arith) (omega arith) ∙ last_stays m n

pub stays_open : (m i : ℕ) → m ≤ i → state_at (m + 1) m i ≡ m
stays_open m i h = let e : m + (i - m) ≡ i = omega arith in ap (state_at (m + 1) m) (sym e) ∙ last_stays m (i - m)

-- a meaning of m states that stand for the first m instants, and one open state more
module _ (n m : ℕ) (v : ℕ → ℕ → Value) where
  pub first_means : Means (record { places = n; states = m + 1; start = m; value = λ p s. cond (ltb p n && ltb s m) (v p s) Open }) n (λ p i. cond (ltb i m) (v p i) Open)
  first_means = record {
    count = refl;
    inside = λ p i h. ⊎_elim
        (λ lo. ap (λ s. cond (ltb p n && ltb s m) (v p s) Open) (state_at_first (m + 1) m i (omega arith))
        ∙ cond-true _ _ _ (and_from _ _ (lt-ltb p n h) (lt-ltb i m lo)) ∙ sym (cond-true (ltb i m) (v p i) Open (lt-ltb i m lo)))
        (λ hi. ap (λ s. cond (ltb p n && ltb s m) (v p s) Open) (stays_open m i hi)
        ∙ cond-false _ _ _ (and_right (ltb p n) (ltb m m) (le-ltb m m (omega arith))) ∙ sym (cond-false (ltb i m) (v p i) Open (le-ltb i m hi)))
        (cases_lt i m);
    outside = λ p i h. cond-false _ _ _ (and_left (ltb p n) (ltb (state_at (m + 1) m i) m) (le-ltb p n h));
  }

-- what `grind` needs of states, by names of this crate
pub state_below : (k l i : ℕ) → l < k → state_at k l i < k
state_below = state_at_below

pub state_first : (k l i : ℕ) → i < k → state_at k l i ≡ i
state_first = state_at_first
