-- The first tuple outside a set, from a chain over the places.
use Rattle.std.proofs.Common.{◌≡◌, ℕ, suc, ◌+◌, ◌≤◌, Bool, false, List, [], ◌∷◌, length, drop, get_or, Option, None, Some, refl, sym, arith, min, filter_map}
use Rattle.std.proofs.Math.Seq.{drop-cons}
use Rattle.std.specs.List.{reduce, fold, enumerate_from, cons_option}
use Rattle.declaring.specs.Sets.{earlier, outside_at, outside_of}

-- the place at a number, if the tuple of that number is held and not allowed
abbrev pub stray : List Bool → List Bool → (ℕ × ℕ) → Option ℕ
stray hs us p = outside_at (get_or hs p.0 false) p.1 (get_or us p.0 false)

min_assoc : (a b c : ℕ) → min (min a b) c ≡ min a (min b c)
min_assoc a b c = omega (arith)

fold_min : (a b : ℕ) (xs : List ℕ) → fold min (min a b) xs ≡ min a (fold min b xs)
fold_min a b [] = refl
fold_min a b (x ∷ xs) = rw (min_assoc a b x) (fold_min a (min b x) xs)

reduce_cons : (o : Option ℕ) (xs : List ℕ) → reduce min (cons_option o xs) ≡ earlier o (reduce min xs)
reduce_cons None xs = refl
reduce_cons (Some a) [] = refl
reduce_cons (Some a) (x ∷ xs) = rw (fold_min a x xs) refl

none_outside : (hs us : List Bool) → outside_of hs [] us ≡ None
unfolding outside_of
none_outside [] us = refl
none_outside (h ∷ hs) us = refl

strays_from : (hs us : List Bool) (ps : List ℕ) (n : ℕ) → n + length ps ≤ length hs → n + length ps ≤ length us →
    reduce min (filter_map (stray hs us) (enumerate_from n ps)) ≡ outside_of (drop n hs) ps (drop n us)
unfolding outside_of
strays_from hs us [] n a b = sym (none_outside (drop n hs) (drop n us))
strays_from hs us (p ∷ ps) n a b =
    let e : n + 1 ≡ suc n = omega (arith) in
    rw (drop-cons hs n false (omega (arith, a)), drop-cons us n false (omega (arith, b)), reduce_cons (stray hs us (n, p)) (filter_map (stray hs us) (enumerate_from (n + 1) ps)), strays_from hs us ps (n + 1) (omega (arith, a)) (omega (arith, b)), e) refl

-- the smallest place of a stray is the place of the first
pub first_stray : (hs us : List Bool) (ps : List ℕ) → length ps ≤ length hs → length ps ≤ length us →
    reduce min (filter_map (stray hs us) (enumerate_from 0 ps)) ≡ outside_of hs ps us
first_stray hs us ps a b = strays_from hs us ps 0 (omega (arith, a)) (omega (arith, b))
