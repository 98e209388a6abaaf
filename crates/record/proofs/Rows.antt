-- The held places of a row, and the bytes of a state.
use Rattle.std.proofs.Common.{◌≡◌, ℕ, zero, suc, ◌+◌, ◌*◌, ◌<◌, ◌≤◌, Bool, true, false, cond, ◌||◌, List, [], ◌∷◌, ◌++◌, length, get_or, take, drop, replicate, sym, refl, ap, ◌∙◌, append_assoc, append-nil, add-zero, arith, length-append, take-append-drop, length-take}
use Rattle.std.specs.List.{flat_map, count_by}
use Rattle.std.proofs.lemmas.List.Sums.{sum_by-cons}
use Rattle.std.proofs.lemmas.List.{take_more, take_all, get_or-drop}
use Rattle.std.proofs.lemmas.Bool.{eq-eqb, ne_eqb, false≢true}
use Rattle.std.proofs.lemmas.Bool.Decides.{nat_tests}
use Rattle.trace.specs.Tables.{Empty}
use Rattle.numbers.specs.Numbers.{encode}
use Rattle.numbers.specs.Lists.{Ascends}
use Rattle.numbers.proofs.Lists.{ascends_low, ascends_high}
use Rattle.record.specs.Writing.{place_bytes, state_of, front}
use Rattle.record.specs.Records.{itself, helds, among}

pub helds_append : (i : ℕ) (xs ys : List Bool) → helds i (xs ++ ys) ≡ helds i xs ++ helds (i + length xs) ys
helds_append i [] ys = rw add-zero
helds_append i (true ∷ xs) ys = ap (λ z. i ∷ z) (helds_append (i + 1) xs ys ∙ ap (λ n. helds (i + 1) xs ++ helds n ys) (omega arith))
helds_append i (false ∷ xs) ys = helds_append (i + 1) xs ys ∙ ap (λ n. helds (i + 1) xs ++ helds n ys) (omega arith)

pub length_helds : (i : ℕ) (xs : List Bool) → length (helds i xs) ≤ length xs
length_helds i [] = omega arith
length_helds i (true ∷ xs) = let h = length_helds (i + 1) xs in omega arith
length_helds i (false ∷ xs) = let h = length_helds (i + 1) xs in omega arith

-- the held places are as many as the fields that are true; `grind` takes this at `count_by`
counted : (i : ℕ) (xs : List Bool) → count_by (λ b. b) xs ≡ length (helds i xs)
counted i [] = refl
counted i (true ∷ xs) = let h = counted (i + 1) xs in let e = sum_by-cons (λ b. cond b 1 0) true xs in omega arith
counted i (false ∷ xs) = let h = counted (i + 1) xs in let e = sum_by-cons (λ b. cond b 1 0) false xs in omega arith

pub count_held : (xs : List Bool) → (count_by (λ b. b) xs ≡ length (helds 0 xs)) × (length (helds 0 xs) ≤ length xs)
count_held xs = (counted 0 xs, length_helds 0 xs)

pub helds_blank : (i m : ℕ) → helds i (replicate m false) ≡ []
helds_blank i zero = refl
helds_blank i (suc m) = helds_blank (i + 1) m

helds_none : (i : ℕ) (xs : List Bool) → ((p : ℕ) → get_or xs p false ≡ false) → helds i xs ≡ []
helds_none i [] none = refl
helds_none i (true ∷ xs) none = absurd (false≢true (sym (none 0)))
helds_none i (false ∷ xs) none = helds_none (i + 1) xs (λ p. none (suc p))

-- a row that holds nothing from n on holds what its first n places hold
pub helds_front : (row : List Bool) (n : ℕ) → Empty row n → helds 0 row ≡ helds 0 (take n row)
helds_front row n none =
    ap (helds 0) (sym (take-append-drop n row)) ∙ helds_append 0 (take n row) (drop n row)
    ∙ ap (λ z. helds 0 (take n row) ++ z) (helds_none (0 + length (take n row)) (drop n row) (λ p. get_or-drop n row p false ∙ none (n + p) (omega arith)))
    ∙ append-nil (helds 0 (take n row))

pub joined_append : {X A : Type 0} (f : X → List A) (xs ys : List X) → flat_map f (xs ++ ys) ≡ flat_map f xs ++ flat_map f ys
joined_append f [] ys = refl
joined_append f (x ∷ xs) ys = ap (λ z. f x ++ z) (joined_append f xs ys) ∙ sym (append_assoc (f x) (flat_map f xs) (flat_map f ys))

-- one place more
at_place : (p : ℕ) (b : Bool) → flat_map encode (helds p (b ∷ [])) ≡ place_bytes p b
at_place p true = append-nil (encode p)
at_place p false = refl

pub front_more : (row : List Bool) (p : ℕ) → p < length row → front row (p + 1) ≡ front row p ++ place_bytes p (get_or row p false)
front_more row p h =
    let n : 0 + length (take p row) ≡ p = simp length-take (omega arith) in
    let e : helds 0 (take (p + 1) row) ≡ helds 0 (take p row) ++ helds p (get_or row p false ∷ []) =
    ap (helds 0) (take_more row p false h) ∙ helds_append 0 (take p row) (get_or row p false ∷ []) ∙ ap (λ m. helds 0 (take p row) ++ helds m (get_or row p false ∷ [])) n in
    ap (λ z. encode (length (helds 0 row)) ++ flat_map encode z) e
    ∙ ap (λ z. encode (length (helds 0 row)) ++ z) (joined_append encode (helds 0 (take p row)) (helds p (get_or row p false ∷ [])) ∙ ap (λ z. flat_map encode (helds 0 (take p row)) ++ z) (at_place p (get_or row p false)))
    ∙ sym (append_assoc (encode (length (helds 0 row))) (flat_map encode (helds 0 (take p row))) (place_bytes p (get_or row p false)))

pub front_le : (row : List Bool) (p : ℕ) → length (front row p) ≤ length (state_of row)
front_le row p =
    let e : helds 0 row ≡ helds 0 (take p row) ++ helds (0 + length (take p row)) (drop p row) = ap (helds 0) (sym (take-append-drop p row)) ∙ helds_append 0 (take p row) (drop p row) in
    let f : flat_map encode (helds 0 row) ≡ flat_map encode (helds 0 (take p row)) ++ flat_map encode (helds (0 + length (take p row)) (drop p row)) = ap (flat_map encode) e ∙ joined_append encode (helds 0 (take p row)) (helds (0 + length (take p row)) (drop p row)) in
    omega (arith, simp length-append at (ap length f), length-append (encode (length (helds 0 row))) (flat_map encode (helds 0 row)), length-append (encode (length (helds 0 row))) (flat_map encode (helds 0 (take p row))))

pub length_encode : (n : ℕ) → length (encode n) ≤ 3
length_encode n = grind (arith, nat_tests)

pub length_joined : (ns : List ℕ) → length (flat_map encode ns) ≤ 3 * length ns
length_joined [] = omega arith
length_joined (n ∷ ns) = let h = length_joined ns in let k = length_encode n in omega (arith, length-append (encode n) (flat_map encode ns))

pub state_bound : (row : List Bool) → length row ≤ 768 → length (state_of row) ≤ 2307
state_bound row h =
    omega (arith, length-append (encode (length (helds 0 row))) (flat_map encode (helds 0 row)), length_encode (length (helds 0 row)), length_joined (helds 0 row), length_helds 0 row)

pub helds_ascend : (i : ℕ) (row : List Bool) → Ascends itself i (i + length row) (helds i row)
helds_ascend i [] = tt
helds_ascend i (true ∷ row) = let e : (i + 1) + length row ≤ i + suc (length row) = omega arith in (omega arith, omega arith, ascends_high itself (i + 1) ((i + 1) + length row) (i + suc (length row)) (helds (i + 1) row) e (helds_ascend (i + 1) row))
helds_ascend i (false ∷ row) = let e : (i + 1) + length row ≤ i + suc (length row) = omega arith in ascends_low itself i (i + 1) (i + suc (length row)) (helds (i + 1) row) (omega arith) (ascends_high itself (i + 1) ((i + 1) + length row) (i + suc (length row)) (helds (i + 1) row) e (helds_ascend (i + 1) row))

-- a place below the row's beginning is not among them
not_among : (p low n : ℕ) (rs : List ℕ) → p < low → Ascends itself low n rs → among p rs ≡ false
not_among p low n [] h a = refl
not_among p low n (r ∷ rs) h a =
    ap (λ b. b || among p rs) (ne_eqb p r (λ e. omega (arith, a.0))) ∙ not_among p (r + 1) n rs (omega (arith, a.0)) a.2

-- what is among the held places is what the row holds
pub among_helds : (i k : ℕ) (row : List Bool) → among (i + k) (helds i row) ≡ get_or row k false
among_helds i k [] = refl
among_helds i zero (true ∷ row) = ap (λ b. b || among (i + 0) (helds (i + 1) row)) (eq-eqb (i + 0) i (omega arith))
among_helds i zero (false ∷ row) = not_among (i + 0) (i + 1) ((i + 1) + length row) (helds (i + 1) row) (omega arith) (helds_ascend (i + 1) row)
among_helds i (suc k) (true ∷ row) =
    let e : i + suc k ≡ (i + 1) + k = omega arith in
    ap (λ b. b || among (i + suc k) (helds (i + 1) row)) (ne_eqb (i + suc k) i (λ x. omega arith)) ∙ ap (λ p. among p (helds (i + 1) row)) e ∙ among_helds (i + 1) k row
among_helds i (suc k) (false ∷ row) =
    let e : i + suc k ≡ (i + 1) + k = omega arith in
    ap (λ p. among p (helds (i + 1) row)) e ∙ among_helds (i + 1) k row

pub front_all : (row : List Bool) (p : ℕ) → length row ≤ p → front row p ≡ state_of row
front_all row p h = ap (λ z. encode (length (helds 0 row)) ++ flat_map encode (helds 0 z)) (take_all p row h)
