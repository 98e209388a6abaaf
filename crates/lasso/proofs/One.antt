-- Two lassos with one endless path, each with the fewest states, are one.
use Rattle.std.proofs.Common.{◌≡◌, ℕ, ◌+◌, ◌-◌, ◌<◌, sym, ap, ◌∙◌, ⊎_elim, arith}
use Rattle.std.proofs.lemmas.Bool.{cases_order}
use Rattle.lasso.specs.Lassos.{path, Repeats, Shorter, Fewest}
use Rattle.lasso.proofs.Folds.{state_at_first}
use Rattle.lasso.proofs.Rounds.{path_again, repeats_like, shorter}

module _ {V : Type 0} where
  as_shorter : (k l k' l' : ℕ) (f g : ℕ → ℕ → V) → k' < k → l' < k' → ((i p : ℕ) → path k l f i p ≡ path k' l' g i p) → Shorter k l f
  as_shorter k l k' l' f g b h same = record { states = k'; start = l'; values = g; fewer = b; loops = h; same = λ i p. sym (same i p) }

  -- the loop of the one does not start before the loop of the other
  no_earlier : (k l l' : ℕ) (f g : ℕ → ℕ → V) → l < k → l' < k → Fewest k l f → ((i p : ℕ) → path k l f i p ≡ path k l' g i p) → l' < l → ⊥
  no_earlier k l l' f g h h' few same b = few (shorter k l f h (l' + (k - l)) l' (omega arith) (omega arith) again)
    where
      again : Repeats k l f l' (l' + (k - l) - l')
      again = record {
        again = λ i p m.
            let x : ℕ = k - l in
            let y : ℕ = k - l' in
            let far : Repeats k l f l' y = repeats_like k l f h k l' g h' (λ j q. sym (same j q)) in
            let a : i + (l' + (k - l) - l') ≡ i + x = omega arith in
            let e : i + x + y ≡ i + y + x = omega arith in
            ap (λ j. path k l f j p) a ∙ sym (far.again (i + x) p (omega arith)) ∙ ap (λ j. path k l f j p) e ∙ path_again k l f h (i + y) p (omega arith) ∙ far.again i p m;
      }

  pub one_lasso : (k l k' l' : ℕ) (f g : ℕ → ℕ → V) → l < k → l' < k' → Fewest k l f → Fewest k' l' g → ((i p : ℕ) → path k l f i p ≡ path k' l' g i p)
      → (k ≡ k') × (l ≡ l') × ((s p : ℕ) → s < k → f s p ≡ g s p)
  one_lasso k l k' l' f g h h' few few' same =
      let ek : k ≡ k' = ⊎_elim (λ e. e) (⊎_elim (λ b. absurd (few' (as_shorter k' l' k l g f b h (λ i p. sym (same i p))))) (λ b. absurd (few (as_shorter k l k' l' f g b h' same)))) (cases_order k k') in
      let same' : (i p : ℕ) → path k l f i p ≡ path k l' g i p = λ i p. same i p ∙ ap (λ n. path n l' g i p) (sym ek) in
      let few'' : Fewest k l' g = λ s. few' (record { states = s.states; start = s.start; values = s.values; fewer = omega (arith, s.fewer); loops = s.loops; same = λ i p. s.same i p ∙ ap (λ n. path n l' g i p) ek }) in
      let el : l ≡ l' = ⊎_elim (λ e. e) (⊎_elim (λ b. absurd (no_earlier k l' l g f (omega arith) h few'' (λ i p. sym (same' i p)) b)) (λ b. absurd (no_earlier k l l' f g h (omega arith) few same' b))) (cases_order l l') in
      (ek, el, λ s p b. ap (λ x. f x p) (sym (state_at_first k l s b)) ∙ same' s p ∙ ap (λ x. g x p) (state_at_first k l' s b))
