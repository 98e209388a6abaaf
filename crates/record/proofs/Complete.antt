-- The record of a trace is read, and says that trace.
use Rattle.std.proofs.Common.{◌≡◌, ℕ, suc, ◌+◌, ◌<◌, ◌≤◌, Bool, false, cond, ltb, List, [], ◌∷◌, ◌++◌, map, length, get_or, take, drop, Ok, Err, sym, refl, ap, ◌∙◌, subst, inr, ⊎_elim, append_assoc, append-nil, arith, length-take}
use Rattle.std.specs.List.{flat_map}
use Rattle.std.proofs.lemmas.List.{length-map, length-drop, get_or-take, get_or_past}
use Rattle.std.proofs.lemmas.Bool.{cases_lt, cond-true, cond-false, lt-ltb, le-ltb}
use Rattle.faults.specs.declared.Fault.TheVariants.{OutsideLimits}
use Rattle.trace.specs.declared.trace.Trace.{Trace}
use Rattle.trace.specs.Tables.{Empty}
use Rattle.numbers.specs.Numbers.{most_bytes, limit, encode, and_then, read_at, within, edition}
use Rattle.numbers.specs.Lists.{read, lists, list_bytes, Ascends, Good}
use Rattle.numbers.proofs.Lists.{ascends_high}
use Rattle.numbers.proofs.ListsComplete.{number, skip, number_complete, within_complete, edition_complete, lists_complete}
use Rattle.record.specs.Records.{itself, helds, said, header, record_of}
use Rattle.record.specs.Reading.{Heading, loop_start, heading, ended, parse}
use Rattle.record.proofs.Rows.{length_helds, helds_front, helds_ascend}
use Rattle.record.proofs.Written.{record_bound}

heading_run : (bs : List ℕ) (n k l a1 a2 a3 a4 : ℕ) → l < k → edition bs ≡ Ok a1 → within bs a1 0 768 ≡ Ok (number n a2) → within bs a2 1 8 ≡ Ok (number k a3) → read_at bs a3 ≡ Ok (number l a4)
    → heading bs ≡ Ok (record { places = n; states = k; start = l; next = a4 })
heading_run bs n k l a1 a2 a3 a4 d r0 r1 r2 r3 =
    ap (λ r. and_then r (λ a. and_then (within bs a 0 768) (λ n. and_then (within bs n.next 1 8) (λ k. loop_start bs n.value k.value k.next)))) r0
    ∙ ap (λ r. and_then r (λ n. and_then (within bs n.next 1 8) (λ k. loop_start bs n.value k.value k.next))) r1
    ∙ ap (λ r. and_then r (λ k. loop_start bs n k.value k.next)) r2
    ∙ ap (λ r. and_then r (λ l. cond (ltb l.value k) (Ok (record { places = n; states = k; start = l.value; next = l.next })) (Err (OutsideLimits a3)))) r3
    ∙ cond-true _ _ _ (lt-ltb l k d)

glue : (e n k l d : List ℕ) → e ++ (n ++ (k ++ (l ++ d))) ≡ (e ++ (n ++ (k ++ l))) ++ d
glue e n k l d = simp append_assoc

heading_complete : (bs : List ℕ) (n k l : ℕ) (rest : List ℕ) → n ≤ 768 → k ≤ 8 → l < k → bs ≡ header n k l ++ rest → (h : ℕ) × (heading bs ≡ Ok (record { places = n; states = k; start = l; next = h })) × (drop h bs ≡ rest)
heading_complete bs n k l rest a b d e =
    let e0 : drop 0 bs ≡ encode 1 ++ (encode n ++ (encode k ++ (encode l ++ rest))) = e ∙ sym (glue (encode 1) (encode n) (encode k) (encode l) rest) in
    let a1 : ℕ = 0 + length (encode 1) in
    let e1 = skip bs 0 (encode 1) (encode n ++ (encode k ++ (encode l ++ rest))) e0 in
    let a2 : ℕ = a1 + length (encode n) in
    let e2 = skip bs a1 (encode n) (encode k ++ (encode l ++ rest)) e1 in
    let a3 : ℕ = a2 + length (encode k) in
    let e3 = skip bs a2 (encode k) (encode l ++ rest) e2 in
    let a4 : ℕ = a3 + length (encode l) in
    let e4 = skip bs a3 (encode l) rest e3 in
    let r0 = edition_complete bs (encode n ++ (encode k ++ (encode l ++ rest))) e0 in
    let r1 = within_complete bs a1 0 768 n (encode k ++ (encode l ++ rest)) e1 (omega arith) (omega arith) a in
    let r2 = within_complete bs a2 1 8 k (encode l ++ rest) e2 (omega arith) (omega arith) b in
    let r3 = number_complete bs a3 l rest e3 (omega arith) in
    (a4, heading_run bs n k l a1 a2 a3 a4 d r0 r1 r2 r3, e4)

parse_run : (bs : List ℕ) (h : Heading) (rows : List (List ℕ)) (end : ℕ) → length bs ≤ most_bytes → heading bs ≡ Ok h → lists itself bs h.places h.states h.next [] ≡ Ok (read rows end) → length bs ≤ end
    → parse bs ≡ Ok (record { places = h.places; states = h.states; start = h.start; rows = rows })
parse_run bs h rows end short e f g =
    cond-false (ltb most_bytes (length bs)) _ _ (le-ltb most_bytes (length bs) short)
    ∙ ap (λ r. and_then r (λ h. and_then (lists itself bs h.places h.states h.next []) (λ v. ended bs h v))) e
    ∙ ap (λ r. and_then r (λ v. ended bs h v)) f
    ∙ cond-false (ltb end (length bs)) _ _ (le-ltb end (length bs) g)

-- a row that holds nothing from n on: its held places lie below n
row_below : (row : List Bool) (n : ℕ) → Empty row n → Ascends itself 0 n (helds 0 row) × (length (helds 0 row) ≤ n)
row_below row n none =
    let e = helds_front row n none in
    let short : length (take n row) ≤ n = simp length-take (omega arith) in
    let less : 0 + length (take n row) ≤ n = omega arith in
    let P : List ℕ → Type 0 = λ ps. Ascends itself 0 n ps × (length ps ≤ n) in
    subst P (sym e) (ascends_high itself 0 (0 + length (take n row)) n (helds 0 (take n row)) less (helds_ascend 0 (take n row)), omega (arith, length_helds 0 (take n row)))

good_rows : (n : ℕ) (rows : List (List Bool)) → ((j : ℕ) → Empty (get_or rows j []) n) → Good itself n (map (helds 0) rows)
good_rows n [] g = tt
good_rows n (r ∷ rows) g =
    let b = row_below r n (g 0) in
    (b.0, b.1, good_rows n rows (λ j. g (suc j)))

good_trace : (t : Trace) → Good itself t.places (said t).rows
good_trace t = good_rows t.places (take t.shape.states t.held) (λ j p m.
    ⊎_elim
    (λ lo. ap (λ row. get_or row p false) (get_or-take t.shape.states t.held j [] lo) ∙ t.none_outside j p (inr m))
    (λ (hi : t.shape.states ≤ j). ap (λ row. get_or row p false) (get_or_past (take t.shape.states t.held) j [] (simp length-take (omega arith))))
    (cases_lt j t.shape.states))

small : (v : ℕ) → itself v < 768 → v < limit
small v h = omega arith

pub complete : (t : Trace) → parse (record_of (said t)) ≡ Ok (said t)
complete t =
    let n = t.places in
    let k = t.shape.states in
    let l = t.shape.loop_start in
    let rows = (said t).rows in
    let bs = record_of (said t) in
    let h = heading_complete bs n k l (flat_map list_bytes rows) t.few_places t.few_states t.shape.loops refl in
    let tall : k ≤ length t.held = omega (arith, t.tall, t.few_states) in
    let count : length rows ≡ k = simp (length-map, length-take) (omega arith) in
    let s : lists itself bs n k h.0 [] ≡ Ok (read rows (h.0 + length (flat_map list_bytes rows))) =
    ap (λ m. lists itself bs n m h.0 []) (sym count) ∙ lists_complete itself small bs n rows h.0 [] [] t.few_places (good_trace t) (h.2 ∙ sym (append-nil (flat_map list_bytes rows))) in
    let short : length bs ≤ most_bytes = omega (arith, record_bound t) in
    let all : length bs ≤ h.0 + length (flat_map list_bytes rows) = omega (arith, length-drop h.0 bs, ap length h.2) in
    parse_run bs (record { places = n; states = k; start = l; next = h.0 }) rows (h.0 + length (flat_map list_bytes rows)) short h.1 s all
