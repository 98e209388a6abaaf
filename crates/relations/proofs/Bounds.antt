-- The bounds of a relation from its two sets.
use Rattle.std.proofs.Common.{◌≡◌, ℕ, zero, suc, ◌<◌, Bool, false, List, [], ◌∷◌, length, get_or, refl, ap, arith}
use Rattle.lasso.specs.declared.value.Value.TheVariants.{No}
use Rattle.relations.specs.Relations.{bound, bounds_of}

pub length_bounds : (ls us : List Bool) → length ls ≡ length us → length (bounds_of ls us) ≡ length ls
unfolding bounds_of
length_bounds [] [] e = refl
length_bounds [] (u ∷ us) e = refl
length_bounds (l ∷ ls) [] e = absurd (omega arith)
length_bounds (l ∷ ls) (u ∷ us) e = ap suc (length_bounds ls us (omega arith))

pub get_d_bounds : (ls us : List Bool) (i : ℕ) → length ls ≡ length us → i < length ls → get_or (bounds_of ls us) i No ≡ bound (get_or ls i false) (get_or us i false)
unfolding bounds_of
get_d_bounds [] us i e h = absurd (omega arith)
get_d_bounds (l ∷ ls) [] i e h = absurd (omega arith)
get_d_bounds (l ∷ ls) (u ∷ us) zero e h = refl
get_d_bounds (l ∷ ls) (u ∷ us) (suc i) e h = get_d_bounds ls us i (omega arith) (omega arith)
