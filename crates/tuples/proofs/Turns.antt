-- What a fold over the numbers below an end gives, where each step goes from one number to the next.
use Rattle.std.proofs.Common.{◌≡◌, ℕ, zero, suc, ◌+◌, ◌<◌, List, subst, arith}
use Rattle.std.specs.List.{FoldsTo, range_with_len}
use Rattle.std.specs.Iterator.{FoldTurn}
use Rattle.std.specs.Fn.{Called, Mut}

abbrev Step : {F C : Type 0} → Mut F (C × (ℕ × Unit {0})) C → (F → Type 0) → (ℕ → C → Type 0) → ℕ → Type 0
Step {F} {C} g Same Inv end = (f : F) (k : ℕ) (a b : C) (q : F) → Same f → k < end → Inv k a → Called g f (a, (k, tt)) b q → Same q × Inv (k + 1) b

module _ {F C : Type 0} {g : Mut F (C × (ℕ × Unit {0})) C} (Same : F → Type 0) (Inv : ℕ → C → Type 0) (end : ℕ) where
  folds_from : Step g Same Inv end → (a n : ℕ) (p q : F × C) → a + n ≡ end → Same p.0 → Inv a p.1 → FoldsTo (FoldTurn g) p (range_with_len a n) q → Inv end q.1
  folds_from step a zero p q e s h d = subst (λ w. Inv end w.1) d (subst (λ k. Inv k p.1) (omega arith) h)
  folds_from step a (suc n) p q e s h d =
      let z = step p.0 a p.1 d.0.1 d.0.0 s (omega arith) h d.1 in
      folds_from step (a + 1) n d.0 q (omega arith) z.0 z.1 d.2

  pub folds_over : (xs : List ℕ) (p q : F × C) → FoldsTo (FoldTurn g) p xs q → xs ≡ range_with_len 0 end → Same p.0 → Inv 0 p.1 → Step g Same Inv end → Inv end q.1
  folds_over xs p q d e s h step = folds_from step 0 end p q (omega arith) s h (subst (λ ys. FoldsTo (FoldTurn g) p ys q) e d)
