-- What is reached past a window is reached within.
use Rattle.std.proofs.Common.{◌≡◌, ℕ, zero, suc, ◌+◌, ◌-◌, ◌*◌, ◌/◌, ◌%◌, ◌<◌, ◌≤◌, ◌↔◌, subst, add-mul, zero-mul, add-one, one-mul, ap, ◌∙◌, sym, arith}
use native.Mathlib.Nat.{mod-add-div'}
use Rattle.meaning.specs.Levels.{Level, Graded}
use Rattle.meaning.specs.Shown.{ShownAt}
use Rattle.meaning.specs.Repeats.{RepeatsFrom}
use Rattle.meaning.specs.Rows.{Row, Shows}
use Rattle.meaning.proofs.Shown.{onward}

module _ {P : Graded} {s p : ℕ} (r : RepeatsFrom P s p) where
  pub rounds_on : (t : Level) (n i : ℕ) → s ≤ i → P t i ↔ P t (i + n * p)
  rounds_on t zero i h = let e : i ≡ i + zero * p = omega (arith, zero-mul p) in subst (λ (x : ℕ). P t i ↔ P t x) e (λ x. x, λ x. x)
  rounds_on t (suc n) i h =
      let q : suc n * p ≡ n * p + p = ap (λ (x : ℕ). x * p) (sym (add-one n)) ∙ add-mul n 1 p ∙ ap (λ (x : ℕ). n * p + x) (one-mul p) in
      let e : i + n * p + p ≡ i + suc n * p = omega arith in
      let last : P t (i + n * p) ↔ P t (i + suc n * p) = subst (λ (x : ℕ). P t (i + n * p) ↔ P t x) e (r.again t (i + n * p) (omega arith)) in
      let all = rounds_on t n i h in
      (λ x. last.0 (all.0 x), λ x. all.1 (last.1 x))

-- at an instant past the window, by the instant of its last round at which it stands
pub shows_beyond :
    {w p : ℕ} {P : Graded} {a : Row} → 0 < p → p ≤ w → RepeatsFrom P (w - p) p → Shows w P a → (i : ℕ) → w - p ≤ i →
    ShownAt (λ t. P t i) (a (w - p + (i - (w - p)) % p))
shows_beyond {w} {p} {P} {a} pos fits r z i h =
    let d : ℕ = i - (w - p) in
    let m : d % p < p = omega arith in
    let j : ℕ = w - p + d % p in
    let e : j + d / p * p ≡ i = omega (arith, mod-add-div' d p) in
    onward
    (λ t. subst (λ (x : ℕ). P t j ↔ P t x) e (rounds_on r t (d / p) j (omega arith)))
    (z.value j (omega arith))
