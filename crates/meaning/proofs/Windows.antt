-- The rows of operators over a window show what the operators reach.
use Rattle.std.proofs.Common.{◌≡◌, ℕ, zero, suc, ◌+◌, ◌-◌, ◌<◌, ◌≤◌, ◌⊎◌, ◌↔◌, subst, inl, ⊎_elim, arith}
use Rattle.std.proofs.lemmas.Bool.{cases_lt}
use Rattle.lasso.specs.declared.value.Value.{Value}
use Rattle.lasso.specs.declared.value.Value.TheVariants.{No, Yes}
use Rattle.lasso.specs.Values.{smaller, greater}
use Rattle.problem.specs.declared.node.Prefix.{Prefix}
use Rattle.problem.specs.declared.node.Prefix.TheVariants as prefix
use Rattle.problem.specs.declared.node.Infix.{Infix}
use Rattle.problem.specs.declared.node.Infix.TheVariants as word
use Rattle.meaning.specs.Levels.{Level, Graded}
use Rattle.meaning.specs.Instants.{Not, And, Or, Implies, After, Before, Until, Since, Always, Eventually, Historically, Once, PrefixedBy, JoinedBy}
use Rattle.meaning.specs.Repeats.{RepeatsFrom}
use Rattle.meaning.specs.Shown.{ShownAt}
use Rattle.meaning.specs.Rows.{Row, Shows, back, forth, round, not_row, and_row, or_row, implies_row, after_row, before_row, holding, until_row, since_row, always_row, eventually_row, historically_row, once_row, prefixed_row, joined_row}
use Rattle.meaning.proofs.Shown.{same_shown, onward, yes_shown, no_shown, not_shown, smaller_shown, greater_shown}
use Rattle.meaning.proofs.Steps.{until_step, since_step, since_first, eventually_step, always_step, once_step, once_first, historically_step, historically_first}
use Rattle.meaning.proofs.Walks.{after_within, after_wraps}
use Rattle.meaning.proofs.Repetition.{shifted, everywhere, until_repeats, always_repeats, eventually_repeats}

-- a walk back from w to i, if each step back shows what is reached there
module _ (f : ℕ → Value → Value) (U : Graded) (w : ℕ) (step : (i : ℕ) → i < w → (v : Value) → ShownAt (λ t. U t (i + 1)) v → ShownAt (λ t. U t i) (f i v)) where
  back_shown : (v : Value) → ShownAt (λ t. U t w) v → (n i : ℕ) → i + n ≡ w → ShownAt (λ t. U t i) (back f v n i)
  back_shown v last zero i e = let q : w ≡ i = omega arith in subst (λ (x : ℕ). ShownAt (λ t. U t x) v) q last
  back_shown v last (suc n) i e = step i (omega arith) (back f v n (i + 1)) (back_shown v last n (i + 1) (omega arith))

-- a walk once round the last p instants, by what is reached within the window, and then one over the whole window
round_shown :
    (w p : ℕ) → p ≤ w → (f : ℕ → Value → Value) (v : Value) (U V : Graded) →
    ((i : ℕ) → i < w → (v : Value) → ShownAt (λ t. V t (i + 1)) v → ShownAt (λ t. V t i) (f i v)) →
    ((i : ℕ) → i < w → (v : Value) → ShownAt (λ t. U t (i + 1)) v → ShownAt (λ t. U t i) (f i v)) →
    ShownAt (λ t. V t w) v → ((t : Level) → V t (w - p) ↔ U t w) → Shows w U (round w p f v)
round_shown w p fits f v U V stepV stepU last wraps = record {
  value = λ i h.
      back_shown f U w stepU (back f v p (w - p))
      (onward wraps (back_shown f V w stepV v last p (w - p) (omega arith)))
      (w - i) i (omega arith);
}

forth_to :
    (w : ℕ) (f : ℕ → Value → Value) (v : Value) (U : Graded) → ShownAt (λ t. U t zero) (f zero v) →
    ((i : ℕ) → suc i < w → (v : Value) → ShownAt (λ t. U t i) v → ShownAt (λ t. U t (suc i)) (f (suc i) v)) →
    (i : ℕ) → i < w → ShownAt (λ t. U t i) (forth f v i)
forth_to w f v U first step zero h = first
forth_to w f v U first step (suc i) h = step i h (forth f v i) (forth_to w f v U first step i (omega arith))

-- a walk forth, over a window that is not empty
forth_shown :
    (w : ℕ) (f : ℕ → Value → Value) (v : Value) (U : Graded) → (0 < w → ShownAt (λ t. U t zero) (f zero v)) →
    ((i : ℕ) → suc i < w → (v : Value) → ShownAt (λ t. U t i) v → ShownAt (λ t. U t (suc i)) (f (suc i) v)) → Shows w U (forth f v)
forth_shown w f v U first step = record { value = λ i h. forth_to w f v U (first (omega arith)) step i h }

module _ {w : ℕ} {P : Graded} {a : Row} (s : Shows w P a) where
  pub not_shows : Shows w (Not P) (not_row a)
  not_shows = record { value = λ i h. not_shown (s.value i h) }

  before_at : (i : ℕ) → i < w → ShownAt (λ t. Before P t i) (before_row a i)
  before_at zero h = onward (λ t. (λ x. absurd x, λ x. absurd (omega arith))) no_shown
  before_at (suc i) h =
      let e : i ≡ suc i - 1 = omega arith in
      let r : ShownAt (λ t. P t (suc i - 1)) (a i) = subst (λ (x : ℕ). ShownAt (λ t. P t x) (a i)) e (s.value i (omega arith)) in
      onward (λ t. (λ x. (omega arith, x), λ x. x.1)) r

  pub before_shows : Shows w (Before P) (before_row a)
  before_shows = record { value = before_at }

  pub once_shows : Shows w (Once P) (once_row a)
  once_shows =
      forth_shown w (λ i v. greater (a i) v) No (Once P)
      (λ h. onward (λ t. once_first P t) (onward (λ t. (⊎_elim (λ x. x) (λ x. absurd x), λ x. inl x)) (greater_shown (s.value zero h) no_shown)))
      (λ i h v z. onward (λ t. once_step P t i) (greater_shown (s.value (suc i) h) z))

  pub historically_shows : Shows w (Historically P) (historically_row a)
  historically_shows =
      forth_shown w (λ i v. smaller (a i) v) Yes (Historically P)
      (λ h. onward (λ t. historically_first P t) (onward (λ t. (λ x. x.0, λ x. (x, tt))) (smaller_shown (s.value zero h) yes_shown)))
      (λ i h v z. onward (λ t. historically_step P t i) (smaller_shown (s.value (suc i) h) z))

module _ {w p : ℕ} {P : Graded} {a : Row} (pos : 0 < p) (fits : p ≤ w) (r : RepeatsFrom P (w - p) p) (s : Shows w P a) where
  pub after_shows : Shows w (After P) (after_row w p a)
  after_shows = record {
    value = λ i h.
        ⊎_elim
        (λ lt. same_shown (after_within a w p i lt) (s.value (i + 1) lt))
        (λ ge.
        let e : w ≡ i + 1 = omega arith in
        let z : ShownAt (λ t. P t w) (a (w - p)) = onward (λ t. shifted r t w (omega arith)) (s.value (w - p) (omega arith)) in
        same_shown (after_wraps a w p i ge) (subst (λ (x : ℕ). ShownAt (λ t. P t x) (a (w - p))) e z))
        (cases_lt (i + 1) w);
  }

  always_wraps : (t : Level) → Always (λ u j. j < w → P u j) t (w - p) ↔ Always P t w
  always_wraps t = (
    λ x j y. everywhere r t pos (λ m b c. x m b (omega arith)) j (omega arith),
    λ x j y z. (shifted (always_repeats r) t w (omega arith)).1 x j y,
  )

  pub always_shows : Shows w (Always P) (always_row w p a)
  always_shows =
      let V : Graded = Always (λ u j. j < w → P u j) in
      round_shown w p fits (λ i v. smaller (a i) v) Yes (Always P) V
      (λ i h v z. onward (λ t. always_step (λ u j. j < w → P u j) t i) (smaller_shown (onward (λ t. (λ x y. x, λ x. x h)) (s.value i h)) z))
      (λ i h v z. onward (λ t. always_step P t i) (smaller_shown (s.value i h) z))
      (onward {A = λ t. Unit {0}} (λ t. (λ x j y b. absurd (omega arith), λ x. tt)) yes_shown)
      always_wraps

  -- a witness at a later instant is one within the window too
  eventually_in : (t : Level) (n : ℕ) (u : Eventually P t (w - p)) → u.0 ≤ n → Eventually (λ v j. (j < w) × P v j) t (w - p)
  eventually_in t zero u h = (u.0, u.1, (omega arith, u.2))
  eventually_in t (suc n) u h =
      ⊎_elim
      (λ lt. (u.0, u.1, (lt, u.2)))
      (λ ge. eventually_in t n (u.0 - p, omega arith, (shifted r t u.0 (omega arith)).1 u.2) (omega arith))
      (cases_lt u.0 w)

  eventually_wraps : (t : Level) → Eventually (λ v j. (j < w) × P v j) t (w - p) ↔ Eventually P t w
  eventually_wraps t =
      let z : Eventually P t (w - p) ↔ Eventually P t w = shifted (eventually_repeats r) t w (omega arith) in
      (λ u. z.0 (u.0, u.1, u.2.1), λ u. eventually_in t (z.1 u).0 (z.1 u) (omega arith))

  pub eventually_shows : Shows w (Eventually P) (eventually_row w p a)
  eventually_shows =
      let V : Graded = Eventually (λ u j. (j < w) × P u j) in
      round_shown w p fits (λ i v. greater (a i) v) No (Eventually P) V
      (λ i h v z. onward (λ t. eventually_step (λ u j. (j < w) × P u j) t i) (greater_shown (onward (λ t. (λ x. (h, x), λ x. x.1)) (s.value i h)) z))
      (λ i h v z. onward (λ t. eventually_step P t i) (greater_shown (s.value i h) z))
      (onward (λ t. (λ x. absurd x, λ x. absurd (omega arith))) no_shown)
      eventually_wraps

module _ {w : ℕ} {P Q : Graded} {a b : Row} (s : Shows w P a) (z : Shows w Q b) where
  pub and_shows : Shows w (And P Q) (and_row a b)
  and_shows = record { value = λ i h. smaller_shown (s.value i h) (z.value i h) }

  pub or_shows : Shows w (Or P Q) (or_row a b)
  or_shows = record { value = λ i h. greater_shown (s.value i h) (z.value i h) }

  pub implies_shows : Shows w (Implies P Q) (implies_row a b)
  implies_shows = record { value = λ i h. greater_shown (not_shown (s.value i h)) (z.value i h) }

  holding_shown : {A : Level → Type 0} (i : ℕ) → i < w → (v : Value) → ShownAt A v → ShownAt (λ t. Q t i ⊎ (P t i × A t)) (holding a b i v)
  holding_shown i h v x = greater_shown (z.value i h) (smaller_shown (s.value i h) x)

  pub since_shows : Shows w (Since P Q) (since_row a b)
  since_shows =
      forth_shown w (holding a b) No (Since P Q)
      (λ h. onward (λ t. since_first P t Q) (onward (λ t. (⊎_elim (λ x. x) (λ x. absurd x.1), λ x. inl x)) (holding_shown zero h No no_shown)))
      (λ i h v x. onward (λ t. since_step P t Q i) (holding_shown (suc i) h v x))

module _ {w p : ℕ} {P Q : Graded} {a b : Row} (pos : 0 < p) (fits : p ≤ w) (r : RepeatsFrom P (w - p) p) (q : RepeatsFrom Q (w - p) p) (s : Shows w P a) (z : Shows w Q b) where
  until_in : (t : Level) (n : ℕ) (u : Until P Q t (w - p)) → u.0 ≤ n → Until P (λ v j. (j < w) × Q v j) t (w - p)
  until_in t zero u h = (u.0, u.1, (omega arith, u.2), u.3)
  until_in t (suc n) u h =
      ⊎_elim
      (λ lt. (u.0, u.1, (lt, u.2), u.3))
      (λ ge. until_in t n (u.0 - p, omega arith, (shifted q t u.0 (omega arith)).1 u.2, λ m x y. u.3 m x (omega arith)) (omega arith))
      (cases_lt u.0 w)

  until_wraps : (t : Level) → Until P (λ v j. (j < w) × Q v j) t (w - p) ↔ Until P Q t w
  until_wraps t =
      let y : Until P Q t (w - p) ↔ Until P Q t w = shifted (until_repeats r q) t w (omega arith) in
      (λ u. y.0 (u.0, u.1, u.2.1, u.3), λ u. until_in t (y.1 u).0 (y.1 u) (omega arith))

  pub until_shows : Shows w (Until P Q) (until_row w p a b)
  until_shows =
      let within : Graded = λ u j. (j < w) × Q u j in
      let inner : Shows w within b = record { value = λ i h. onward (λ t. (λ x. (h, x), λ x. x.1)) (z.value i h) } in
      round_shown w p fits (holding a b) No (Until P Q) (Until P within)
      (λ i h v x. onward (λ t. until_step P t within i) (holding_shown s inner i h v x))
      (λ i h v x. onward (λ t. until_step P t Q i) (holding_shown s z i h v x))
      (onward (λ t. (λ x. absurd x, λ x. absurd (omega arith))) no_shown)
      until_wraps

pub prefixed_shows : (x : Prefix) {w p : ℕ} {P : Graded} {a : Row} → 0 < p → p ≤ w → RepeatsFrom P (w - p) p → Shows w P a → Shows w (PrefixedBy x P) (prefixed_row w p x a)
prefixed_shows prefix.Not pos fits r s = not_shows s
prefixed_shows prefix.After pos fits r s = after_shows pos fits r s
prefixed_shows prefix.Always pos fits r s = always_shows pos fits r s
prefixed_shows prefix.Eventually pos fits r s = eventually_shows pos fits r s
prefixed_shows prefix.Before pos fits r s = before_shows s
prefixed_shows prefix.Historically pos fits r s = historically_shows s
prefixed_shows prefix.Once pos fits r s = once_shows s

pub joined_shows : (x : Infix) {w p : ℕ} {P Q : Graded} {a b : Row} → 0 < p → p ≤ w → RepeatsFrom P (w - p) p → RepeatsFrom Q (w - p) p → Shows w P a → Shows w Q b → Shows w (JoinedBy x P Q) (joined_row w p x a b)
joined_shows word.And pos fits r q s z = and_shows s z
joined_shows word.Or pos fits r q s z = or_shows s z
joined_shows word.Implies pos fits r q s z = implies_shows s z
joined_shows word.Until pos fits r q s z = until_shows pos fits r q s z
joined_shows word.Since pos fits r q s z = since_shows s z
