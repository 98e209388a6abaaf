-- The greatest and the least of the values below a count, by folds over the numbers below it.
use Rattle.std.proofs.Common.{◌≡◌, ℕ, zero, suc, ◌+◌, sym, ap, ◌∙◌, add-one, arith}
use Rattle.std.specs.List.{fold, range_with_len}
use Rattle.lasso.specs.declared.value.Value.{Value}
use Rattle.lasso.specs.Values.{smaller, greater}
use Rattle.meaning.specs.Tables.{Table, highest, lowest}

pub highest_fold : (f : Table) (a n m : ℕ) → a + n ≡ m → fold (λ v r. greater v (f r)) (highest a f) (range_with_len a n) ≡ highest m f
unfolding highest
highest_fold f a zero m e = let q : a ≡ m = omega arith in ap (λ (x : ℕ). highest x f) q
highest_fold f a (suc n) m e =
    ap (λ (x : ℕ). fold (λ (v : Value) (r : ℕ). greater v (f r)) (highest x f) (range_with_len (a + 1) n)) (sym (add-one a))
    ∙ highest_fold f (a + 1) n m (omega arith)

pub lowest_fold : (f : Table) (a n m : ℕ) → a + n ≡ m → fold (λ v r. smaller v (f r)) (lowest a f) (range_with_len a n) ≡ lowest m f
unfolding lowest
lowest_fold f a zero m e = let q : a ≡ m = omega arith in ap (λ (x : ℕ). lowest x f) q
lowest_fold f a (suc n) m e =
    ap (λ (x : ℕ). fold (λ (v : Value) (r : ℕ). smaller v (f r)) (lowest x f) (range_with_len (a + 1) n)) (sym (add-one a))
    ∙ lowest_fold f (a + 1) n m (omega arith)
