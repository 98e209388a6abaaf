-- The steps of loops that fill a row, for the crates that do so.
use Rattle.std.proofs.Common.{◌≡◌, ℕ, zero, suc, ◌+◌, ◌-◌, ◌<◌, ◌≤◌, ltb, ◌≢◌, List, length, set, sym, refl, ap, ◌∙◌, subst, ⊎_elim, add-one, arith, get_or-set_other, get_or-set_same}
use Rattle.std.proofs.lemmas.List.Edits.{fill_by_more}
use Rattle.std.proofs.lemmas.Bool.{cases_lt, lt-ltb, le-ltb, cond-true, cond-false}
use Rattle.lasso.specs.declared.value.Value.{Value}
use Rattle.lasso.specs.declared.value.Value.TheVariants.{No}
use Rattle.meaning.specs.Tables.{table_at}
use Rattle.meaning.specs.Rows.{Row, RowIs, back, forth, round, after_row, before_row}

-- one value more, upwards and downwards
pub row_more : (f : Row) (xs : List Value) (i : ℕ) (v : Value) → i < length xs → RowIs i xs f → v ≡ f i → RowIs (i + 1) (set xs i v) f
row_more f xs i v h old e = subst (λ (x : Value). RowIs (i + 1) (set xs i x) f) (sym e) (fill_by_more f xs i No h old)

pub row_down :
    (f : Row) (xs : List Value) (w i : ℕ) (v : Value) → 0 < i → i ≤ length xs → ((m : ℕ) → i ≤ m → m < w → table_at xs m ≡ f m) → v ≡ f (i - 1) →
    (m : ℕ) → i - 1 ≤ m → m < w → table_at (set xs (i - 1) v) m ≡ f m
row_down f xs w i v pos fits old e m h k =
    ⊎_elim
    (λ lt. let ne : m ≢ i - 1 = omega arith in get_or-set_other xs (i - 1) m v No ne ∙ old m (omega arith) k)
    (λ ge.
    let q : i - 1 ≡ m = omega arith in
    subst (λ (x : ℕ). table_at (set xs (i - 1) v) x ≡ f x) q (get_or-set_same xs (i - 1) v No (omega arith) ∙ e))
    (cases_lt (i - 1) m)

-- a walk back from w: not begun, and one step more
pub back_none : (f : ℕ → Value → Value) (v : Value) (w : ℕ) → back f v (w - w) w ≡ v
back_none f v w = let e : w - w ≡ zero = omega arith in ap (λ (n : ℕ). back f v n w) e

pub back_more : (f : ℕ → Value → Value) (v : Value) (w i : ℕ) → 0 < i → i ≤ w → back f v (w - (i - 1)) (i - 1) ≡ f (i - 1) (back f v (w - i) i)
back_more f v w i pos h =
    let e : w - (i - 1) ≡ suc (w - i) = omega arith in
    let g : i - 1 + 1 ≡ i = omega arith in
    ap (λ (n : ℕ). back f v n (i - 1)) e ∙ ap (λ (k : ℕ). f (i - 1) (back f v (w - i) k)) g

-- what a walk forth has before i
abbrev pub prior : (ℕ → Value → Value) → Value → ℕ → Value
prior f v zero = v
prior f v (suc i) = forth f v i

pub forth_prior : (f : ℕ → Value → Value) (v : Value) (i : ℕ) → forth f v i ≡ f i (prior f v i)
forth_prior f v zero = refl
forth_prior f v (suc i) = refl

pub prior_more : (f : ℕ → Value → Value) (v : Value) (i : ℕ) → prior f v (i + 1) ≡ forth f v i
prior_more f v i = ap (prior f v) (add-one i)

pub after_within : (a : Row) (w p i : ℕ) → i + 1 < w → after_row w p a i ≡ a (i + 1)
after_within a w p i h = cond-true (ltb (i + 1) w) _ _ (lt-ltb (i + 1) w h)

pub after_wraps : (a : Row) (w p i : ℕ) → w ≤ i + 1 → after_row w p a i ≡ a (w - p)
after_wraps a w p i h = cond-false (ltb (i + 1) w) _ _ (le-ltb (i + 1) w h)

pub before_later : (a : Row) (i : ℕ) → 0 < i → a (i - 1) ≡ before_row a i
before_later a zero h = absurd (omega arith)
before_later a (suc i) h = let e : suc i - 1 ≡ i = omega arith in ap a e

-- walks by steps that agree within the window
module _ (w : ℕ) (f g : ℕ → Value → Value) (same : (i : ℕ) → i < w → (v : Value) → f i v ≡ g i v) where
  pub back_same : (v : Value) (n i : ℕ) → i + n ≤ w → back f v n i ≡ back g v n i
  back_same v zero i h = refl
  back_same v (suc n) i h = same i (omega arith) _ ∙ ap (g i) (back_same v n (i + 1) (omega arith))

  pub forth_same : (v : Value) (i : ℕ) → i < w → forth f v i ≡ forth g v i
  forth_same v zero h = same zero h v
  forth_same v (suc i) h = same (suc i) h _ ∙ ap (g (suc i)) (forth_same v i (omega arith))

  pub round_same : (p : ℕ) (v : Value) → p ≤ w → (i : ℕ) → i < w → round w p f v i ≡ round w p g v i
  round_same p v fits i h =
      back_same (back f v p (w - p)) (w - i) i (omega arith)
      ∙
      ap (λ (x : Value). back g x (w - i) i) (back_same v p (w - p) (omega arith))
