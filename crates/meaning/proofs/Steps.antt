-- Operators on instants, by what they reach at the next instant or at the last.
use Rattle.std.proofs.Common.{◌≡◌, ℕ, zero, suc, ◌+◌, ◌⊎◌, ◌↔◌, subst, inl, inr, ⊎_elim, arith}
use Rattle.std.proofs.lemmas.Bool.{cases_lt}
use Rattle.meaning.specs.Levels.{Level, Graded}
use Rattle.meaning.specs.Instants.{Until, Since, Always, Eventually, Historically, Once}

module _ (P : Graded) (t : Level) where
  pub eventually_step : (i : ℕ) → (P t i ⊎ Eventually P t (i + 1)) ↔ Eventually P t i
  eventually_step i = (
    ⊎_elim (λ a. (i, omega arith, a)) (λ e. (e.0, omega arith, e.2)),
    λ e.
        ⊎_elim
        (λ lt. inr (e.0, omega arith, e.2))
        (λ ge. let q : e.0 ≡ i = omega arith in inl (subst (P t) q e.2))
        (cases_lt i e.0),
  )

  pub always_step : (i : ℕ) → (P t i × Always P t (i + 1)) ↔ Always P t i
  always_step i = (
    λ r j x.
        ⊎_elim (λ lt. r.1 j (omega arith)) (λ ge. let q : i ≡ j = omega arith in subst (P t) q r.0) (cases_lt i j),
    λ a. (a i (omega arith), λ j x. a j (omega arith)),
  )

  pub once_step : (i : ℕ) → (P t (suc i) ⊎ Once P t i) ↔ Once P t (suc i)
  once_step i = (
    ⊎_elim (λ a. (suc i, omega arith, a)) (λ e. (e.0, omega arith, e.2)),
    λ e.
        ⊎_elim
        (λ lt. inr (e.0, omega arith, e.2))
        (λ ge. let q : e.0 ≡ suc i = omega arith in inl (subst (P t) q e.2))
        (cases_lt e.0 (suc i)),
  )

  pub historically_step : (i : ℕ) → (P t (suc i) × Historically P t i) ↔ Historically P t (suc i)
  historically_step i = (
    λ r j x.
        ⊎_elim
        (λ lt. r.1 j (omega arith))
        (λ ge. let q : suc i ≡ j = omega arith in subst (P t) q r.0)
        (cases_lt j (suc i)),
    λ a. (a (suc i) (omega arith), λ j x. a j (omega arith)),
  )

  pub once_first : P t zero ↔ Once P t zero
  once_first = (λ a. (zero, omega arith, a), λ e. let q : e.0 ≡ zero = omega arith in subst (P t) q e.2)

  pub historically_first : P t zero ↔ Historically P t zero
  historically_first = (λ a j x. let q : zero ≡ j = omega arith in subst (P t) q a, λ a. a zero (omega arith))

  module _ (Q : Graded) where
    pub until_step : (i : ℕ) → (Q t i ⊎ (P t i × Until P Q t (i + 1))) ↔ Until P Q t i
    until_step i = (
      ⊎_elim
          (λ q. (i, omega arith, q, λ m x y. absurd (omega arith)))
          (λ r. (
            r.1.0,
            omega arith,
            r.1.2,
            λ m x y.
                ⊎_elim (λ lt. r.1.3 m (omega arith) y) (λ ge. let e : i ≡ m = omega arith in subst (P t) e r.0) (cases_lt i m),
          )),
      λ u.
          ⊎_elim
          (λ lt. inr (u.3 i (omega arith) lt, (u.0, omega arith, u.2, λ m x y. u.3 m (omega arith) y)))
          (λ ge. let e : u.0 ≡ i = omega arith in inl (subst (Q t) e u.2))
          (cases_lt i u.0),
    )

    pub since_step : (i : ℕ) → (Q t (suc i) ⊎ (P t (suc i) × Since P Q t i)) ↔ Since P Q t (suc i)
    since_step i = (
      ⊎_elim
          (λ q. (suc i, omega arith, q, λ m x y. absurd (omega arith)))
          (λ r. (
            r.1.0,
            omega arith,
            r.1.2,
            λ m x y.
                ⊎_elim (λ lt. let e : suc i ≡ m = omega arith in subst (P t) e r.0) (λ ge. r.1.3 m x ge) (cases_lt i m),
          )),
      λ u.
          ⊎_elim
          (λ lt. inr (u.3 (suc i) lt (omega arith), (u.0, omega arith, u.2, λ m x y. u.3 m x (omega arith))))
          (λ ge. let e : u.0 ≡ suc i = omega arith in inl (subst (Q t) e u.2))
          (cases_lt u.0 (suc i)),
    )

    pub since_first : Q t zero ↔ Since P Q t zero
    since_first = (
      λ q. (zero, omega arith, q, λ m x y. absurd (omega arith)),
      λ u. let e : u.0 ≡ zero = omega arith in subst (Q t) e u.2,
    )
