-- A contradiction at an instant shows already at one of the first instants, which are the states.
use Rattle.std.proofs.Common.{◌≡◌, ℕ, ◌<◌, ◌≤◌, ◌⊎◌, true, inl, inr, sym, subst, ◌∙◌, ⊎_elim, arith}
use Rattle.std.proofs.lemmas.Bool.{cases_lt, cases_order}
use Rattle.faults.specs.declared.Fault.TheVariants.{PlaceCountsDiffer, Contradiction}
use Rattle.lasso.specs.declared.time.Instant.{Instant}
use Rattle.lasso.specs.declared.value.Value.{Value}
use Rattle.source.specs.Meanings.{Meaning, told_at}
use Rattle.problem.specs.declared.problem.Problem.{Problem}
use Rattle.problem.specs.Problems.{sizes_in}
use Rattle.places.specs.Places.{place_count}
use Rattle.places.specs.Asked.{FixedAt}
use Rattle.table.specs.declared.table.Table.{Table}
use Rattle.table.specs.Tables.{value_in, Copied}
use Rattle.known.specs.Known.{Opposed, Clash, against_bounds, yes_and_no, Fits, FirstClash, Misfit, counts_differ, contradicts}
use Rattle.known.specs.States.{Shows, NoneBefore, FirstShown}
use Rattle.known.proofs.Places.{bound_inside, fixed_inside}
use Rattle.known.proofs.Instants.{state, state_below, state_soon, told_is, told_first}

turned : (a b : Value) → Opposed a b → Opposed b a
turned a b o = ⊎_elim (λ x. inr (x.1, x.0)) (λ x. inl (x.1, x.0)) o

unopposed : (a : Value) → Opposed a a → ⊥
unopposed a o = ⊎_elim (λ x. let e = sym x.0 in cc) (λ x. let e = sym x.0 in cc) o

opposed_along : (a b x y : Value) → a ≡ x → b ≡ y → Opposed a b → Opposed x y
opposed_along a b x y e f o = subst (λ v. Opposed v y) e (subst (λ v. Opposed a v) f o)

shows_inside : (p : Problem) (t : Table) (s q : ℕ) → Shows p t s q → q < place_count (sizes_in p)
shows_inside p t s q h = ⊎_elim (λ a. bound_inside p q a.bound a.is) (λ y. fixed_inside p q _ y.fixed) h

-- a contradiction shows in a state, not later than an instant
pub record Shown (p : Problem) (t : Table) (i q : ℕ) : Type 0 where
  pub at : ℕ
  pub below : at < t.shape.states
  pub soon : at ≤ i
  pub shows : Shows p t at q

module _ (p : Problem) (m : Meaning) (t : Table) (c : Copied m t) where
  -- of the two states of a yes and a no, the later one shows it
  both : (i j q : ℕ) → FixedAt p q true → j ≤ i → Opposed (value_in t (state t j) q) (value_in t (state t i) q) → Shown p t i q
  both i j q f h o =
      ⊎_elim
      (λ e. absurd (unopposed (value_in t (state t i) q) (subst (λ s. Opposed (value_in t s q) (value_in t (state t i) q)) e o)))
      (⊎_elim
      (λ lo. record {
        at = state t i;
        below = state_below t i;
        soon = state_soon t i;
        shows = inr (record { fixed = f; told = record { earlier = state t j; before = lo; opposed = o } });
      })
      (λ hi. record {
        at = state t j;
        below = state_below t j;
        soon = omega (arith, state_soon t j);
        shows = inr (record { fixed = f; told = record { earlier = state t i; before = hi; opposed = turned (value_in t (state t j) q) (value_in t (state t i) q) o } });
      }))
      (cases_order (state t j) (state t i))

  shown : (i q : ℕ) → Clash p m i q → Shown p t i q
  shown i q (against_bounds {b} bound o) = record {
    at = state t i;
    below = state_below t i;
    soon = state_soon t i;
    shows = inl (record { bound = b; is = bound; opposed = subst (λ v. Opposed b v) (told_is m t c i q) o });
  }
  shown i q (yes_and_no {j} f h o) =
      both i j q f h (opposed_along (told_at m q j) (told_at m q i) (value_in t (state t j) q) (value_in t (state t i) q) (told_is m t c j q) (told_is m t c i q) o)

  clash_of : (s q : ℕ) → s < t.shape.states → Shows p t s q → Clash p m s q
  clash_of s q h w =
      ⊎_elim
      (λ a. against_bounds a.is (subst (λ v. Opposed a.bound v) (sym (told_first m t c s q h)) a.opposed))
      (λ y.
      let j = y.told.earlier in
      let b : j ≤ s = omega (arith, y.told.before) in
      let l : j < t.shape.states = omega (arith, y.told.before) in
      yes_and_no y.fixed b
      (opposed_along (value_in t j q) (value_in t s q) (told_at m q j) (told_at m q s) (sym (told_first m t c j q l)) (sym (told_first m t c s q h)) y.told.opposed))
      w

  module _ (e : t.places ≡ place_count (sizes_in p)) where
    none_shown : NoneBefore p t t.shape.states → Fits p m
    none_shown none = record {
      places = sym c.places_are ∙ e;
      no_clash = λ i q k. let w = shown i q k in none.none w.at q w.below (omega (arith, shows_inside p t w.at q w.shows)) w.shows;
    }

    -- none shows at an earlier instant, nor at this one at a lower place
    not_before : (s q j r : ℕ) → FirstShown p t s q → Shown p t j r → (s < j) ⊎ ((s ≡ j) × (q ≤ r))
    not_before s q j r f w =
        ⊎_elim
        (λ same.
        ⊎_elim
        (λ lo. absurd (f.lower.none r lo (subst (λ x. Shows p t x r) same w.shows)))
        (λ hi. ⊎_elim (λ less. inl less) (λ more. inr (omega (arith, w.soon), hi)) (cases_lt s j))
        (cases_lt r q))
        (⊎_elim
        (λ before. absurd (f.earlier.none w.at r before (omega (arith, shows_inside p t w.at r w.shows)) w.shows))
        (λ after. inl (omega (arith, w.soon))))
        (cases_order w.at s)

    first_clash : (s q : ℕ) → FirstShown p t s q → FirstClash p m s q
    first_clash s q f = record {
      clash = clash_of s q f.state f.shows;
      first = λ j r k. not_before s q j r f (shown j r k);
    }

-- the three answers of src/fitting
pub differs : (p : Problem) (m : Meaning) (t : Table) → Copied m t → (t.places ≡ place_count (sizes_in p) → ⊥) → Misfit p m PlaceCountsDiffer
differs p m t c ne = counts_differ (λ e. ne (c.places_are ∙ e))

pub contradicted : (p : Problem) (m : Meaning) (t : Table) (i : Instant) (q : ℕ) → Copied m t → t.places ≡ place_count (sizes_in p) → FirstShown p t i.0 q → Misfit p m (Contradiction q i)
contradicted p m t i q c e f = contradicts (sym c.places_are ∙ e) (first_clash p m t c e i.0 q f)

pub fits : (p : Problem) (m : Meaning) (t : Table) → Copied m t → t.places ≡ place_count (sizes_in p) → NoneBefore p t t.shape.states → Fits p m
fits p m t c e none = none_shown p m t c e none
