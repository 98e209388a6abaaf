-- What a closure made at each index, where each call keeps what it captured and gives the same function of the index.
use Rattle.std.proofs.Common.{◌≡◌, ℕ, zero, suc, ◌+◌, ◌<◌, ◌≤◌, List, get_or, subst, inl, inr, ◌∙◌, arith}
use Rattle.std.proofs.lemmas.Bool.{cases_lt}
use Rattle.std.specs.Array.{IsFromFnResultFrom}
use Rattle.std.specs.Fn.{Called, Mut}

pub made_at :
    {F B : Type 0} (g : Mut F (ℕ × Unit {0}) B) (Same : F → Type 0) (h : ℕ → B) →
    ((f : F) (i : ℕ) (y : B) (q : F) → Same f → Called g f (i, tt) y q → Same q × (y ≡ h i)) →
    (f : F) (ys : List B) (i n k : ℕ) (d : B) → Same f → IsFromFnResultFrom g f ys i n → i ≤ k → k < i + n → get_or ys k d ≡ h k
made_at g Same h step f ys i zero k d s e a b = absurd (omega arith)
made_at g Same h step f ys i (suc n) k d s (q, y, at, met, more) a b =
    let z = step f i y q s met in
    elim (cases_lt i k) [
      | inl lt ↦ made_at g Same h step q ys (i + 1) n k d z.0 more (omega arith) (omega arith)
      | inr ge ↦ let j : i ≡ k = omega arith in subst (λ x. get_or ys x d ≡ h x) j (at.1 d ∙ z.1)
    ]
