-- The steps of walks.
use Rattle.std.proofs.Common.{◌≡◌, ℕ, zero, suc, ◌+◌, ◌-◌, ◌<◌, ◌≤◌, refl, ap, ◌∙◌, add-one, arith}
use Rattle.lasso.specs.declared.value.Value.{Value}
use Rattle.meaning.specs.Rows.{back, forth, round}

pub back_more : (f : ℕ → Value → Value) (v : Value) (w i : ℕ) → 0 < i → i ≤ w → back f v (w - (i - 1)) (i - 1) ≡ f (i - 1) (back f v (w - i) i)
back_more f v w i pos h =
    let e : w - (i - 1) ≡ suc (w - i) = omega arith in
    let g : i - 1 + 1 ≡ i = omega arith in
    ap (λ (n : ℕ). back f v n (i - 1)) e ∙ ap (λ (k : ℕ). f (i - 1) (back f v (w - i) k)) g

-- a walk from what a walk once round came to
pub round_is : (f : ℕ → Value → Value) (v u : Value) (w p i : ℕ) → p ≤ w → u ≡ back f v (w - (w - p)) (w - p) → back f u (w - i) i ≡ round w p f v i
round_is f v u w p i h e =
    let n : w - (w - p) ≡ p = omega arith in
    ap (λ (x : Value). back f x (w - i) i) (e ∙ ap (λ (m : ℕ). back f v m (w - p)) n)

-- what a walk forth has before i
abbrev pub prior : (ℕ → Value → Value) → Value → ℕ → Value
prior f v zero = v
prior f v (suc i) = forth f v i

pub forth_is : (f : ℕ → Value → Value) (v : Value) (i : ℕ) → forth f v i ≡ f i (prior f v i)
forth_is f v zero = refl
forth_is f v (suc i) = refl

pub prior_more : (f : ℕ → Value → Value) (v : Value) (i : ℕ) → prior f v (i + 1) ≡ forth f v i
prior_more f v i = ap (prior f v) (add-one i)
