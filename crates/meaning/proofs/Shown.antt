-- Values of three kinds made of values, by what they show.
use Rattle.std.proofs.Common.{◌≡◌, ℕ, zero, suc, ◌<◌, ◌⊎◌, ◌↔◌, sym, subst, inl, inr, ⊎_elim, arith}
use Rattle.std.specs.Prelude.{◌==◌}
use Rattle.std.proofs.lemmas.Bool.{cases_lt, cases_eq, eq-eqb, ne_eqb, cond-true, cond-false}
use Rattle.lasso.specs.declared.value.Value.{Value}
use Rattle.lasso.specs.declared.value.Value.TheVariants.{No, Open, Yes}
use Rattle.lasso.specs.Values.{not, smaller, greater}
use Rattle.meaning.specs.Levels.{Level, at_open, at_yes, opposite, AtLeast, Graded, IsValue}
use Rattle.meaning.specs.Tables.{Table, highest, lowest, decided}
use Rattle.meaning.specs.Shown.{ShownAt, Shown, Of}

no_at : (t : Level) → AtLeast t No → ⊥
no_at at_open x = x
no_at at_yes x = x

yes_at : (t : Level) → AtLeast t Yes
yes_at at_open = tt
yes_at at_yes = tt

not_at : (t : Level) (v : Value) → AtLeast t (not v) ↔ (AtLeast (opposite t) v → ⊥)
not_at at_open No = (λ x n. n, λ x. tt)
not_at at_open Open = (λ x n. n, λ x. tt)
not_at at_open Yes = (λ x n. x, λ x. x tt)
not_at at_yes No = (λ x n. n, λ x. tt)
not_at at_yes Open = (λ x n. x, λ x. x tt)
not_at at_yes Yes = (λ x n. x, λ x. x tt)

smaller_at : (t : Level) (u v : Value) → AtLeast t (smaller u v) ↔ (AtLeast t u × AtLeast t v)
smaller_at t No No = (λ x. (x, x), λ x. x.0)
smaller_at t No Open = (λ x. absurd (no_at t x), λ x. x.0)
smaller_at t No Yes = (λ x. (x, yes_at t), λ x. x.0)
smaller_at t Open No = (λ x. absurd (no_at t x), λ x. x.1)
smaller_at t Open Open = (λ x. (x, x), λ x. x.0)
smaller_at t Open Yes = (λ x. (x, yes_at t), λ x. x.0)
smaller_at t Yes No = (λ x. (yes_at t, x), λ x. x.1)
smaller_at t Yes Open = (λ x. (yes_at t, x), λ x. x.1)
smaller_at t Yes Yes = (λ x. (x, x), λ x. x.0)

greater_at : (t : Level) (u v : Value) → AtLeast t (greater u v) ↔ (AtLeast t u ⊎ AtLeast t v)
greater_at t No No = (λ x. inl x, ⊎_elim (λ y. y) (λ y. y))
greater_at t No Open = (λ x. inr x, ⊎_elim (λ y. absurd (no_at t y)) (λ y. y))
greater_at t No Yes = (λ x. inr x, λ y. yes_at t)
greater_at t Open No = (λ x. inl x, ⊎_elim (λ y. y) (λ y. absurd (no_at t y)))
greater_at t Open Open = (λ x. inl x, ⊎_elim (λ y. y) (λ y. y))
greater_at t Open Yes = (λ x. inr x, λ y. yes_at t)
greater_at t Yes No = (λ x. inl x, λ y. yes_at t)
greater_at t Yes Open = (λ x. inl x, λ y. yes_at t)
greater_at t Yes Yes = (λ x. inl x, λ y. yes_at t)

pub own : (v : Value) → ShownAt (λ t. AtLeast t v) v
own v = record { each = λ t. (λ x. x, λ x. x) }

pub own_table : (f : Table) (c : ℕ) → Shown (Of f) f c
own_table f c r k = own (f r)

-- an equal value shows the same, and so does what is reached just as well
pub same_shown : {A : Level → Type 0} {u v : Value} → u ≡ v → ShownAt A v → ShownAt A u
same_shown {A} e s = subst (ShownAt A) (sym e) s

pub onward : {A B : Level → Type 0} {v : Value} → ((t : Level) → A t ↔ B t) → ShownAt A v → ShownAt B v
onward h s = record { each = λ t. (λ x. (h t).0 ((s.each t).0 x), λ x. (s.each t).1 ((h t).1 x)) }

pub yes_shown : ShownAt (λ t. Unit {0}) Yes
yes_shown = record { each = λ t. (λ x. tt, λ x. yes_at t) }

pub no_shown : ShownAt (λ t. ⊥) No
no_shown = record { each = λ t. (λ x. no_at t x, λ x. absurd x) }

pub decided_shown : (x y : ℕ) → ShownAt (λ t. x ≡ y) (decided (x == y))
decided_shown x y = record {
  each = λ t.
      ⊎_elim
      (λ e. (λ z. e, λ z. subst (AtLeast t) (sym (cond-true (x == y) Yes No (eq-eqb x y e))) (yes_at t)))
      (λ e. (λ z. absurd (no_at t (subst (AtLeast t) (cond-false (x == y) Yes No (ne_eqb x y e)) z)), λ z. absurd (e z)))
      (cases_eq x y);
}

pub not_shown : {A : Level → Type 0} {v : Value} → ShownAt A v → ShownAt (λ t. A (opposite t) → ⊥) (not v)
not_shown {A} {v} s = record {
  each = λ t.
      let n = not_at t v in (
        λ x y. n.0 x ((s.each (opposite t)).1 y),
        λ x. n.1 (λ y. x ((s.each (opposite t)).0 y)),
      );
}

pub smaller_shown : {A B : Level → Type 0} {u v : Value} → ShownAt A u → ShownAt B v → ShownAt (λ t. A t × B t) (smaller u v)
smaller_shown {A} {B} {u} {v} p q = record {
  each = λ t.
      let n = smaller_at t u v in (
        λ x. let y = n.0 x in ((p.each t).0 y.0, (q.each t).0 y.1),
        λ x. n.1 ((p.each t).1 x.0, (q.each t).1 x.1),
      );
}

pub greater_shown : {A B : Level → Type 0} {u v : Value} → ShownAt A u → ShownAt B v → ShownAt (λ t. A t ⊎ B t) (greater u v)
greater_shown {A} {B} {u} {v} p q = record {
  each = λ t.
      let n = greater_at t u v in (
        λ x. ⊎_elim (λ y. inl ((p.each t).0 y)) (λ y. inr ((q.each t).0 y)) (n.0 x),
        λ x. n.1 (⊎_elim (λ y. inl ((p.each t).1 y)) (λ y. inr ((q.each t).1 y)) x),
      );
}

none_below : (P : ℕ → Type 0) → ((a : ℕ) × (a < zero) × P a) → ⊥
none_below P x = omega arith

all_below : (P : ℕ → Type 0) → (a : ℕ) → a < zero → P a
all_below P a k = absurd (omega arith)

-- one more than those below c
some_more : (c : ℕ) (P : ℕ → Type 0) → (((a : ℕ) × (a < c) × P a) ⊎ P c) ↔ ((a : ℕ) × (a < suc c) × P a)
some_more c P = (
  ⊎_elim (λ x. (x.0, omega arith, x.2)) (λ x. (c, omega arith, x)),
  λ x.
      ⊎_elim (λ lt. inl (x.0, lt, x.2)) (λ ge. let e : x.0 ≡ c = omega arith in inr (subst P e x.2)) (cases_lt x.0 c),
)

all_more : (c : ℕ) (P : ℕ → Type 0) → (((a : ℕ) → a < c → P a) × P c) ↔ ((a : ℕ) → a < suc c → P a)
all_more c P = (
  λ x a k. ⊎_elim (λ lt. x.0 a lt) (λ ge. let e : c ≡ a = omega arith in subst P e x.1) (cases_lt a c),
  λ x. (λ a k. x a (omega arith), x c (omega arith)),
)

pub highest_shown : {P : Graded} {f : Table} (c : ℕ) → Shown P f c → ShownAt (λ t. (a : ℕ) × (a < c) × P t a) (highest c f)
unfolding highest
highest_shown {P} zero s = onward (λ t. (λ x. absurd x, λ x. absurd (none_below (P t) x))) no_shown
highest_shown {P} {f} (suc c) s =
    onward (λ t. some_more c (P t)) (greater_shown (highest_shown c (λ r k. s r (omega arith))) (s c (omega arith)))

pub lowest_shown : {P : Graded} {f : Table} (c : ℕ) → Shown P f c → ShownAt (λ t. (a : ℕ) → a < c → P t a) (lowest c f)
unfolding lowest
lowest_shown {P} zero s = onward (λ t. (λ x. all_below (P t), λ x. tt)) yes_shown
lowest_shown {P} {f} (suc c) s =
    onward (λ t. all_more c (P t)) (smaller_shown (lowest_shown c (λ r k. s r (omega arith))) (s c (omega arith)))

-- the value that is shown is the value
pub shown_value : (A : Level → Type 0) (v : Value) → ShownAt A v → IsValue A v
shown_value A No s = λ x. (s.each at_open).1 x
shown_value A Open s = ((s.each at_open).0 tt, λ x. (s.each at_yes).1 x)
shown_value A Yes s = (s.each at_yes).0 tt

reach : (A : Level → Type 0) → (A at_yes → A at_open) → (t : Level) (v : Value) → IsValue A v → AtLeast t v ↔ A t
reach A c at_open No x = (λ y. absurd y, λ y. x y)
reach A c at_open Open x = (λ y. x.0, λ y. tt)
reach A c at_open Yes x = (λ y. c x, λ y. tt)
reach A c at_yes No x = (λ y. absurd y, λ y. x (c y))
reach A c at_yes Open x = (λ y. absurd y, λ y. x.1 y)
reach A c at_yes Yes x = (λ y. x, λ y. tt)

pub value_shown : (A : Level → Type 0) → (A at_yes → A at_open) → (v : Value) → IsValue A v → ShownAt A v
value_shown A c v x = record { each = λ t. reach A c t v x }
