-- What the writers keep: what is written so far stands at the start, and the rest of the buffer is as it was.
use Rattle.std.proofs.Common.{◌≡◌, ℕ, zero, suc, ◌+◌, ◌-◌, ◌*◌, ◌<◌, ◌≤◌, Bool, true, false, List, [], ◌∷◌, ◌++◌, map, length, get_or, take, drop, sym, refl, ap, ◌∙◌, append_assoc, append-nil, arith, length-append, length-drop, length-take, take-append-drop}
use mathlib.Core.List.{map-append}
use borrow.Rule.Slice.PartMut.{put_mid}
use Rattle.std.specs.List.{flat_map, filter, enumerate_from, sum_by}
use Rattle.std.proofs.lemmas.List.Sums.{sum_by-cons}
use Rattle.std.proofs.lemmas.List.{drop_all, drop-drop, take_at, drop_at, take_all, take-take, take_more, get_or-take}
use Rattle.numbers.specs.Numbers.{encode, over}
use Rattle.numbers.specs.Lists.{list_bytes}
use Rattle.trace.specs.declared.trace.Trace.{Trace}
use Rattle.record.specs.Records.{helds, rows_of, header, said, header_of, record_of}
use Rattle.record.specs.Writing.{place_bytes, state_of, front, SoFar}
use Rattle.record.proofs.Rows.{joined_append, state_bound, length_encode, front_more}

past : (xs ys old : List ℕ) → drop (length ys) (drop (length xs) old) ≡ drop (length (xs ++ ys)) old
past xs ys old = drop-drop (length ys) (length xs) old ∙ ap (λ n. drop n old) (sym (length-append xs ys))

over_then : (xs ys old buf last : List ℕ) (at k : ℕ) → buf ≡ over xs old → at ≡ length xs → k ≡ length buf - at → last ≡ over ys (take k (drop at buf))
    → put_mid at k buf last ≡ over (xs ++ ys) old
over_then xs ys old buf last at k b a e l =
    let t : take at buf ≡ xs = ap (take at) b ∙ take_at xs _ at (sym a) in
    let d : drop at buf ≡ drop (length xs) old = ap (drop at) b ∙ drop_at xs _ at (sym a) in
    let short : length (drop at buf) ≤ k = simp length-drop (omega arith) in
    let n : drop k (drop at buf) ≡ [] = drop_all k (drop at buf) short in
    let f : take k (drop at buf) ≡ drop at buf = take_all k (drop at buf) short in
    let g : last ≡ ys ++ drop (length (xs ++ ys)) old = l ∙ ap (over ys) (f ∙ d) ∙ ap (λ z. ys ++ z) (past xs ys old) in
    ap (λ z. z ++ (last ++ drop k (drop at buf))) t ∙ ap (λ z. xs ++ (last ++ z)) n ∙ ap (λ z. xs ++ z) (append-nil last ∙ g) ∙ sym (append_assoc xs ys (drop (length (xs ++ ys)) old))

pub so_far_then : {xs old buf : List ℕ} {at : ℕ} (ys last : List ℕ) (k r : ℕ) → SoFar xs old buf at → k ≡ length buf - at → last ≡ over ys (take k (drop at buf)) → r ≡ length ys
    → SoFar (xs ++ ys) old (put_mid at k buf last) (at + r)
so_far_then {xs} {old} {buf} {at} ys last k r w e l f = record {
  bytes = over_then xs ys old buf last at k w.bytes w.end e l;
  end = ap (λ z. z + r) w.end ∙ ap (λ z. length xs + z) f ∙ sym (length-append xs ys);
}

pub so_far_as : {xs old buf : List ℕ} {at : ℕ} (ys : List ℕ) → SoFar xs old buf at → xs ≡ ys → SoFar ys old buf at
so_far_as {xs} {old} {buf} {at} ys w e = record { bytes = w.bytes ∙ ap (λ z. over z old) e; end = w.end ∙ ap length e }

-- one place more of a state is written, and there is room for it
pub place_then : (row : List Bool) (p : ℕ) (old buf last : List ℕ) (at k r : ℕ) → p < length row → SoFar (front row p) old buf at → k ≡ length buf - at
    → last ≡ over (place_bytes p (get_or row p false)) (take k (drop at buf)) → r ≡ length (place_bytes p (get_or row p false)) → SoFar (front row (p + 1)) old (put_mid at k buf last) (at + r)
place_then row p old buf last at k r h s e f g = so_far_as (front row (p + 1)) (so_far_then (place_bytes p (get_or row p false)) last k r s e f g) (sym (front_more row p h))

-- what is left of a buffer has room for what still fits
left_room : (old xs ys buf all : List ℕ) (at k : ℕ) → SoFar xs old buf at → k ≡ length buf - at → length (xs ++ ys) ≤ length all → length all ≤ length old → length ys ≤ length (take k (drop at buf))
left_room old xs ys buf all at k s e h l =
    let b : length buf ≡ length xs + (length old - length xs) = ap length s.bytes ∙ length-append xs (drop (length xs) old) ∙ ap (λ m. length xs + m) (length-drop (length xs) old) in
    simp (length-take, length-drop) (omega (arith, b, s.end, length-append xs ys))

-- the bytes of the first s states
abbrev pub part : List (List Bool) → ℕ → List ℕ
part held s = flat_map list_bytes (rows_of s held)

part_append : (xs ys : List (List Bool)) → flat_map list_bytes (map (helds 0) (xs ++ ys)) ≡ flat_map list_bytes (map (helds 0) xs) ++ flat_map list_bytes (map (helds 0) ys)
part_append xs ys = ap (flat_map list_bytes) (map-append (helds 0) xs ys) ∙ joined_append list_bytes (map (helds 0) xs) (map (helds 0) ys)

pub part_more : (held : List (List Bool)) (s : ℕ) → s < length held → part held (s + 1) ≡ part held s ++ state_of (get_or held s [])
part_more held s h =
    ap (λ rows. flat_map list_bytes (map (helds 0) rows)) (take_more held s [] h) ∙ part_append (take s held) (get_or held s [] ∷ []) ∙ ap (λ z. part held s ++ z) (append-nil (state_of (get_or held s [])))

pub part_le : (held : List (List Bool)) (s k : ℕ) → s ≤ k → length (part held s) ≤ length (part held k)
part_le held s k h =
    let rows = take k held in
    let e : take k held ≡ take s held ++ drop s rows = sym (take-append-drop s rows) ∙ ap (λ z. z ++ drop s rows) (take-take s k held h) in
    let f : part held k ≡ part held s ++ flat_map list_bytes (map (helds 0) (drop s rows)) = ap (λ z. flat_map list_bytes (map (helds 0) z)) e ∙ part_append (take s held) (drop s rows) in
    omega (arith, ap length f, length-append (part held s) (flat_map list_bytes (map (helds 0) (drop s rows))))

-- s rows of 768 places have at most so many bytes
pub part_bound : (held : List (List Bool)) (s : ℕ) → s ≤ length held → ((j : ℕ) → j < s → length (get_or held j []) ≤ 768) → length (part held s) ≤ 2307 * s
part_bound held zero h w = omega arith
part_bound held (suc s) h w =
    let up : suc s ≡ s + 1 = omega arith in
    let e : part held (suc s) ≡ part held s ++ state_of (get_or held s []) = ap (part held) up ∙ part_more held s h in
    omega (arith, ap length e, length-append (part held s) (state_of (get_or held s [])), part_bound held s (omega arith) (λ j b. w j (omega arith)), state_bound (get_or held s []) (w s (omega arith)))

pub header_bound : (n k l : ℕ) → length (header n k l) ≤ 10
header_bound n k l = omega (arith, length_encode n, length_encode k, length_encode l, length-append (encode k) (encode l), length-append (encode n) (encode k ++ encode l))

-- the record of a trace up to the state s
abbrev pub up_to : Trace → ℕ → List ℕ
up_to t s = header t.places t.shape.states t.shape.loop_start ++ part t.held s

up_to_more : (t : Trace) (s : ℕ) (row : List Bool) → s < length t.held → row ≡ get_or t.held s [] → up_to t s ++ state_of row ≡ up_to t (s + 1)
up_to_more t s row h e =
    ap (λ z. up_to t s ++ state_of z) e
    ∙ append_assoc (header t.places t.shape.states t.shape.loop_start) (part t.held s) (state_of (get_or t.held s []))
    ∙ ap (λ z. header t.places t.shape.states t.shape.loop_start ++ z) (sym (part_more t.held s h))

up_to_le : (t : Trace) (s : ℕ) → s ≤ t.shape.states → length (up_to t s) ≤ length (record_of (said t))
up_to_le t s h =
    let a = header t.places t.shape.states t.shape.loop_start in
    omega (arith, part_le t.held s t.shape.states h, length-append a (part t.held s), length-append a (part t.held t.shape.states))

-- one state more is written, and there is room for it
module _ (t : Trace) (table : List (List Bool)) (s k : ℕ) (same : table ≡ t.held) (h : s < k) (w : k ≡ t.shape.states) where
  row_is : get_or (take k table) s [] ≡ get_or t.held s []
  row_is = get_or-take k table s [] h ∙ ap (λ rows. get_or rows s []) same

  here : s < length t.held
  here = omega (arith, t.tall, t.few_states)

  pub state_then : (old buf last : List ℕ) (at m r : ℕ) → SoFar (up_to t s) old buf at → m ≡ length buf - at → last ≡ over (state_of (get_or (take k table) s [])) (take m (drop at buf))
      → r ≡ length (state_of (get_or (take k table) s [])) → SoFar (up_to t (s + 1)) old (put_mid at m buf last) (at + r)
  state_then old buf last at m r x e f g = so_far_as (up_to t (s + 1)) (so_far_then (state_of (get_or (take k table) s [])) last m r x e f g) (up_to_more t s (get_or (take k table) s []) here row_is)

  pub state_room : (old buf : List ℕ) (at m : ℕ) → SoFar (up_to t s) old buf at → m ≡ length buf - at → length (record_of (said t)) ≤ length old
      → length (state_of (get_or (take k table) s [])) ≤ length (take m (drop at buf))
  state_room old buf at m x e l =
      left_room old (up_to t s) (state_of (get_or (take k table) s [])) buf (record_of (said t)) at m x e
      (omega (arith, ap length (up_to_more t s (get_or (take k table) s []) here row_is), up_to_le t (s + 1) (omega arith))) l

-- a record has at most so many bytes
pub record_bound : (t : Trace) → length (record_of (said t)) ≤ 18466
record_bound t =
    let a = header t.places t.shape.states t.shape.loop_start in
    let tall : t.shape.states ≤ length t.held = omega (arith, t.tall, t.few_states) in
    omega (
      arith,
      header_bound t.places t.shape.states t.shape.loop_start,
      length-append a (part t.held t.shape.states),
      t.few_states,
      part_bound t.held t.shape.states tall (λ j b. omega (arith, t.wide j (omega (arith, t.few_states)))),
    )

-- ---- how many bytes
places_sum : (i : ℕ) (row : List Bool) → sum_by (λ x. length (encode x.0)) (filter (λ x. x.1) (enumerate_from i row)) ≡ length (flat_map encode (helds i row))
places_sum i [] = refl
places_sum i (true ∷ row) = sum_by-cons (λ x. length (encode x.0)) (i, true) (filter (λ x. x.1) (enumerate_from (i + 1) row)) ∙ ap (λ n. length (encode i) + n) (places_sum (i + 1) row) ∙ sym (length-append (encode i) (flat_map encode (helds (i + 1) row)))
places_sum i (false ∷ row) = places_sum (i + 1) row

pub state_sum : (row : List Bool) → length (state_of row) ≡ length (encode (length (helds 0 row))) + sum_by (λ x. length (encode x.0)) (filter (λ x. x.1) (enumerate_from 0 row))
state_sum row = length-append (encode (length (helds 0 row))) (flat_map encode (helds 0 row)) ∙ ap (λ n. length (encode (length (helds 0 row))) + n) (sym (places_sum 0 row))

pub places_bound : (row : List Bool) → length row ≤ 768 → sum_by (λ x. length (encode x.0)) (filter (λ x. x.1) (enumerate_from 0 row)) ≤ 2307
places_bound row h = omega (arith, state_sum row, state_bound row h)

states_sum : (rows : List (List Bool)) → sum_by (λ row. length (state_of row)) rows ≡ length (flat_map list_bytes (map (helds 0) rows))
states_sum [] = refl
states_sum (r ∷ rows) = sum_by-cons (λ row. length (state_of row)) r rows ∙ ap (λ n. length (state_of r) + n) (states_sum rows) ∙ sym (length-append (state_of r) (flat_map list_bytes (map (helds 0) rows)))

pub record_sum : (t : Trace) → length (record_of (said t)) ≡ length (header_of t) + sum_by (λ row. length (state_of row)) (take t.shape.states t.held)
record_sum t = length-append (header_of t) (part t.held t.shape.states) ∙ ap (λ n. length (header_of t) + n) (sym (states_sum (take t.shape.states t.held)))

pub states_bound : (t : Trace) → sum_by (λ row. length (state_of row)) (take t.shape.states t.held) ≤ 18466
states_bound t = omega (arith, record_sum t, record_bound t)
