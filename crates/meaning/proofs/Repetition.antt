-- Operators on instants keep what comes again after a period; those of the past do so a period later.
use Rattle.std.proofs.Common.{◌≡◌, ℕ, zero, suc, ◌+◌, ◌-◌, ◌*◌, ◌<◌, ◌≤◌, ◌↔◌, subst, inl, inr, ⊎_elim, one-mul, arith}
use Rattle.std.proofs.lemmas.Bool.{cases_lt}
use Rattle.problem.specs.declared.node.Prefix.{Prefix}
use Rattle.problem.specs.declared.node.Prefix.TheVariants as prefix
use Rattle.problem.specs.declared.node.Infix.{Infix}
use Rattle.problem.specs.declared.node.Infix.TheVariants as word
use Rattle.problem.specs.Sorts.{prefix_past, infix_past}
use Rattle.meaning.specs.Levels.{Level, opposite, Graded}
use Rattle.meaning.specs.Instants.{Not, And, Or, Implies, After, Before, Until, Since, Always, Eventually, Historically, Once, PrefixedBy, JoinedBy}
use Rattle.meaning.specs.Repeats.{RepeatsFrom}

module _ {P : Graded} {s p : ℕ} (r : RepeatsFrom P s p) where
  pub later : (s' : ℕ) → s ≤ s' → RepeatsFrom P s' p
  later s' h = record { again = λ t i k. r.again t i (omega arith) }

  pub shifted : (t : Level) (m : ℕ) → s + p ≤ m → P t (m - p) ↔ P t m
  shifted t m h =
      let e : m - p + p ≡ m = omega arith in
      subst (λ (x : ℕ). P t (m - p) ↔ P t x) e (r.again t (m - p) (omega arith))

  everywhere_to : (t : Level) → 0 < p → ((m : ℕ) → s ≤ m → m < s + p → P t m) → (n m : ℕ) → m ≤ n → s ≤ m → P t m
  everywhere_to t pos all zero m h k = all m k (omega arith)
  everywhere_to t pos all (suc n) m h k =
      ⊎_elim
      (λ lt. all m k lt)
      (λ ge. (shifted t m ge).0 (everywhere_to t pos all n (m - p) (omega arith) (omega arith)))
      (cases_lt m (s + p))

  -- what is reached over a whole period is reached for ever
  pub everywhere : (t : Level) → 0 < p → ((m : ℕ) → s ≤ m → m < s + p → P t m) → (m : ℕ) → s ≤ m → P t m
  everywhere t pos all m h = everywhere_to t pos all m m (omega arith) h

  pub not_repeats : RepeatsFrom (Not P) s p
  not_repeats = record { again = λ t i h. (λ n x. n ((r.again (opposite t) i h).1 x), λ n x. n ((r.again (opposite t) i h).0 x)) }

  pub after_repeats : RepeatsFrom (After P) s p
  after_repeats = record {
    again = λ t i h.
        let e : i + 1 + p ≡ i + p + 1 = omega arith in
        subst (λ (x : ℕ). P t (i + 1) ↔ P t x) e (r.again t (i + 1) (omega arith));
  }

  pub before_repeats : 0 < p → RepeatsFrom (Before P) (s + p) p
  before_repeats pos = record {
    again = λ t i h.
        let e : i - 1 + p ≡ i + p - 1 = omega arith in
        let b : P t (i - 1) ↔ P t (i + p - 1) = subst (λ (x : ℕ). P t (i - 1) ↔ P t x) e (r.again t (i - 1) (omega arith)) in
        (λ x. (omega arith, b.0 x.1), λ x. (omega arith, b.1 x.1));
  }

  pub always_repeats : RepeatsFrom (Always P) s p
  always_repeats = record {
    again = λ t i h. (λ a j k. a j (omega arith), λ a j k. (r.again t j (omega arith)).1 (a (j + p) (omega arith)));
  }

  pub eventually_repeats : RepeatsFrom (Eventually P) s p
  eventually_repeats = record {
    again = λ t i h. (λ e. (e.0 + p, omega arith, (r.again t e.0 (omega arith)).0 e.2), λ e. (e.0, omega arith, e.2));
  }

  pub once_repeats : RepeatsFrom (Once P) (s + p) p
  once_repeats = record {
    again = λ t i h. (
      λ o. (o.0, omega arith, o.2),
      λ o.
          ⊎_elim
          (λ lt. (o.0 - p, omega arith, (shifted t o.0 (omega arith)).1 o.2))
          (λ le. (o.0, le, o.2))
          (cases_lt i o.0),
    );
  }

  pub historically_repeats : RepeatsFrom (Historically P) (s + p) p
  historically_repeats = record {
    again = λ t i h. (
      λ a j k. ⊎_elim (λ lt. (shifted t j (omega arith)).0 (a (j - p) (omega arith))) (λ le. a j le) (cases_lt i j),
      λ a j k. a j (omega arith),
    );
  }

module _ {P Q : Graded} {s p : ℕ} (r : RepeatsFrom P s p) (q : RepeatsFrom Q s p) where
  pub and_repeats : RepeatsFrom (And P Q) s p
  and_repeats = record {
    again = λ t i h. (λ b. ((r.again t i h).0 b.0, (q.again t i h).0 b.1), λ b. ((r.again t i h).1 b.0, (q.again t i h).1 b.1));
  }

  pub or_repeats : RepeatsFrom (Or P Q) s p
  or_repeats = record {
    again = λ t i h. (
      ⊎_elim (λ x. inl ((r.again t i h).0 x)) (λ x. inr ((q.again t i h).0 x)),
      ⊎_elim (λ x. inl ((r.again t i h).1 x)) (λ x. inr ((q.again t i h).1 x)),
    );
  }

  pub until_repeats : RepeatsFrom (Until P Q) s p
  until_repeats = record {
    again = λ t i h. (
      λ u. (
        u.0 + p,
        omega arith,
        (q.again t u.0 (omega arith)).0 u.2,
        λ m im mj. (shifted r t m (omega arith)).0 (u.3 (m - p) (omega arith) (omega arith)),
      ),
      λ u. (
        u.0 - p,
        omega arith,
        (shifted q t u.0 (omega arith)).1 u.2,
        λ m im mj. (r.again t m (omega arith)).1 (u.3 (m + p) (omega arith) (omega arith)),
      ),
    );
  }

  since_up : (t : Level) (i : ℕ) → 0 < p → s + p ≤ i → Since P Q t i → Since P Q t (i + p)
  since_up t i pos h u =
      ⊎_elim
      (λ lt. (
        u.0,
        omega arith,
        u.2,
        λ m jm mi.
            ⊎_elim
            (λ im. everywhere r t pos (λ n x y. u.3 n (omega arith) (omega arith)) m (omega arith))
            (λ le. u.3 m jm le)
            (cases_lt i m),
      ))
      (λ ge. (
        u.0 + p,
        omega arith,
        (q.again t u.0 ge).0 u.2,
        λ m jm mi. (shifted r t m (omega arith)).0 (u.3 (m - p) (omega arith) (omega arith)),
      ))
      (cases_lt u.0 s)

  since_down : (t : Level) (i : ℕ) → s + p ≤ i → Since P Q t (i + p) → Since P Q t i
  since_down t i h u =
      ⊎_elim
      (λ lt. (u.0, omega arith, u.2, λ m jm mi. u.3 m jm (omega arith)))
      (λ ge. (
        u.0 - p,
        omega arith,
        (shifted q t u.0 ge).1 u.2,
        λ m jm mi. (r.again t m (omega arith)).1 (u.3 (m + p) (omega arith) (omega arith)),
      ))
      (cases_lt u.0 (s + p))

  pub since_repeats : 0 < p → RepeatsFrom (Since P Q) (s + p) p
  since_repeats pos = record { again = λ t i h. (since_up t i pos h, since_down t i h) }

pub implies_repeats : {P Q : Graded} {s p : ℕ} → RepeatsFrom P s p → RepeatsFrom Q s p → RepeatsFrom (Implies P Q) s p
implies_repeats r q = or_repeats (not_repeats r) q

-- one more period for each operator of the past
same_start : {P : Graded} {s p : ℕ} → RepeatsFrom P s p → RepeatsFrom P (s + 0 * p) p
same_start {s = s} {p = p} r = later r (s + 0 * p) (omega arith)

next_start : {P : Graded} (s p : ℕ) → RepeatsFrom P (s + p) p → RepeatsFrom P (s + 1 * p) p
next_start s p r = later r (s + 1 * p) (omega (arith, one-mul p))

pub prefixed_repeats : (x : Prefix) {P : Graded} {s p : ℕ} → 0 < p → RepeatsFrom P s p → RepeatsFrom (PrefixedBy x P) (s + prefix_past x * p) p
prefixed_repeats prefix.Not pos r = same_start (not_repeats r)
prefixed_repeats prefix.After pos r = same_start (after_repeats r)
prefixed_repeats prefix.Always pos r = same_start (always_repeats r)
prefixed_repeats prefix.Eventually pos r = same_start (eventually_repeats r)
prefixed_repeats prefix.Before {s = s} {p = p} pos r = next_start s p (before_repeats r pos)
prefixed_repeats prefix.Historically {s = s} {p = p} pos r = next_start s p (historically_repeats r)
prefixed_repeats prefix.Once {s = s} {p = p} pos r = next_start s p (once_repeats r)

pub joined_repeats : (x : Infix) {P Q : Graded} {s p : ℕ} → 0 < p → RepeatsFrom P s p → RepeatsFrom Q s p → RepeatsFrom (JoinedBy x P Q) (s + infix_past x * p) p
joined_repeats word.And pos r q = same_start (and_repeats r q)
joined_repeats word.Or pos r q = same_start (or_repeats r q)
joined_repeats word.Implies pos r q = same_start (implies_repeats r q)
joined_repeats word.Until pos r q = same_start (until_repeats r q)
joined_repeats word.Since {s = s} {p = p} pos r q = next_start s p (since_repeats r q pos)
