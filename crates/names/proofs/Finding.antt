-- What the first place of a name in a list of names is.
use Rattle.std.proofs.Common.{◌≡◌, ℕ, ◌+◌, Bool, true, not, cond, List, [], ◌∷◌, map, get_or, Some, None, Option, MatchOption, sym, refl, ap, arith}
use Rattle.std.specs.Str.{bytes_eq}
use Rattle.std.specs.List.{position, prefix_len}
use Rattle.std.proofs.lemmas.Slice.Eq.{bytes_eq-Decides}
use Rattle.std.proofs.lemmas.List.{length-map}
use Rattle.std.proofs.lemmas.List.Quantifiers.{position-Some}
use Rattle.std.proofs.lemmas.List.Sums.{prefix_len_passes}
use Rattle.std.proofs.lemmas.Bool.Decides.{not_from_Decides, nat_tests}
use Rattle.names.specs.Lookups.{index_of, FirstNamed, NoneNamed}

prefix_map : {X Y : Type 0} (p : Y → Bool) (f : X → Y) (xs : List X) → prefix_len p (map f xs) ≡ prefix_len (λ x. p (f x)) xs
prefix_map p f [] = refl
prefix_map p f (x ∷ xs) = ap (λ n. cond (p (f x)) (1 + n) 0) (prefix_map p f xs)

pub index_map : {X : Type 0} (name : List ℕ) (f : X → List ℕ) (xs : List X) → position (λ x. bytes_eq (f x) name) xs ≡ index_of name (map f xs)
unfolding index_of
index_map name f xs =
    let n = prefix_map (λ x. not (bytes_eq x name)) f xs in
    let l = length-map xs f in
    rw (n, l) refl

none_from : (name : List ℕ) (names : List (List ℕ)) → position (λ x. bytes_eq x name) names ≡ None → NoneNamed name names
none_from name names e k h =
    let missed : not (bytes_eq (get_or names k []) name) ≡ true = prefix_len_passes (λ x. not (bytes_eq x name)) names k [] (grind (arith, nat_tests)) in
    not_from_Decides (bytes_eq (get_or names k []) name) (bytes_eq-Decides _ _) (grind arith)

pub first_named : (name : List ℕ) (names : List (List ℕ)) (r : Option ℕ) → r ≡ index_of name names → MatchOption r (NoneNamed name names) (λ i. FirstNamed name names i)
unfolding index_of
first_named name names None e = none_from name names (sym e)
first_named name names (Some i) e =
    let p = position-Some (λ x. bytes_eq x name) names i [] (sym e) in
    record { inside = p.0; there = (bytes_eq-Decides _ _).0 p.1; first = λ k h. not_from_Decides _ (bytes_eq-Decides _ _) (p.2 k h) }
