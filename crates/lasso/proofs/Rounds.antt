-- Endless paths that come round again, and lassos with fewer states.
use Rattle.std.proofs.Common.{◌≡◌, ℕ, zero, suc, ◌+◌, ◌-◌, ◌<◌, ◌≤◌, sym, ap, ◌∙◌, ⊎_elim, arith}
use Rattle.std.proofs.lemmas.Bool.{cases_lt}
use Rattle.lasso.specs.Lassos.{path, Repeats, Shorter, Fewest}
use Rattle.lasso.proofs.Folds.{state_at_first, state_at_again}

module _ {V : Type 0} (k l : ℕ) (f : ℕ → ℕ → V) (ok : l < k) where
  pub path_again : (i p : ℕ) → l ≤ i → path k l f (i + (k - l)) p ≡ path k l f i p
  path_again i p m = ap (λ s. f s p) (state_at_again k l i ok m)

  -- a path that another lasso has too comes round as that one does
  pub repeats_like : (k' l' : ℕ) (g : ℕ → ℕ → V) → l' < k' → ((i p : ℕ) → path k' l' g i p ≡ path k l f i p) → Repeats k l f l' (k' - l')
  repeats_like k' l' g h same = record { again = λ i p m. sym (same (i + (k' - l')) p) ∙ ap (λ s. g s p) (state_at_again k' l' i h m) ∙ same i p }

  -- one that comes round is the path of the lasso of its first states
  unroll : (k' l' : ℕ) → l' < k' → Repeats k l f l' (k' - l') → (n i p : ℕ) → i < n → path k' l' (path k l f) i p ≡ path k l f i p
  unroll k' l' h r zero i p b = absurd (omega arith)
  unroll k' l' h r (suc n) i p b =
      ⊎_elim
      (λ lo. ap (λ s. path k l f s p) (state_at_first k' l' i lo))
      (λ hi.
      let q : ℕ = k' - l' in
      let j : ℕ = i - q in
      let e : j + q ≡ i = omega arith in
      let m : l' ≤ j = omega arith in
      ap (λ x. path k' l' (path k l f) x p) (sym e) ∙ ap (λ s. path k l f s p) (state_at_again k' l' j h m)
      ∙ unroll k' l' h r n j p (omega arith) ∙ sym (r.again j p m) ∙ ap (λ x. path k l f x p) e)
      (cases_lt i k')

  pub shorter : (k' l' : ℕ) → k' < k → l' < k' → Repeats k l f l' (k' - l') → Shorter k l f
  shorter k' l' b h r = record {
    states = k';
    start = l';
    values = path k l f;
    fewer = b;
    loops = h;
    same = λ i p. unroll k' l' h r (suc i) i p (omega arith);
  }

  pub fewest : ((k' l' : ℕ) → k' < k → l' < k' → Repeats k l f l' (k' - l') → ⊥) → Fewest k l f
  fewest none s = none s.states s.start s.fewer s.loops (repeats_like s.states s.start s.values s.loops s.same)

  -- k instants show whether a path comes round
  further : (from period : ℕ) → ((i p : ℕ) → from ≤ i → i < from + k → path k l f (i + period) p ≡ path k l f i p) → (n i p : ℕ) → i < n → from ≤ i → path k l f (i + period) p ≡ path k l f i p
  further from period w zero i p b m = absurd (omega arith)
  further from period w (suc n) i p b m =
      ⊎_elim
      (λ lo. w i p m lo)
      (λ hi.
      let q : ℕ = k - l in
      let j : ℕ = i - q in
      let e : j + q ≡ i = omega arith in
      let d : i + period ≡ (j + period) + q = omega arith in
      ap (λ x. path k l f x p) d ∙ path_again (j + period) p (omega arith) ∙ further from period w n j p (omega arith) (omega arith)
      ∙ sym (path_again j p (omega arith)) ∙ ap (λ x. path k l f x p) e)
      (cases_lt i (from + k))

  pub enough : (from period : ℕ) → ((i p : ℕ) → from ≤ i → i < from + k → path k l f (i + period) p ≡ path k l f i p) → Repeats k l f from period
  enough from period w = record { again = λ i p m. further from period w (suc i) i p (omega arith) m }
