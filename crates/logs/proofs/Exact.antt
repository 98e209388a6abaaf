-- Accepted are exactly the logs.
use Rattle.std.proofs.Common.{◌≡◌, ℕ, zero, suc, ◌+◌, ◌*◌, ◌<◌, ◌≤◌, true, ◌&&◌, ltb, leb, List, [], ◌∷◌, ◌++◌, length, take, drop, is_ok, Ok, Err, sym, refl, ap, ◌∙◌, subst, append_assoc, append-nil, arith, length-append}
use Rattle.std.specs.List.{flat_map}
use Rattle.std.proofs.lemmas.List.{drop_all, length-drop}
use Rattle.std.proofs.lemmas.Bool.{cond-false, le-ltb, leb-true, ltb-true, and_parts}
use Rattle.std.proofs.lemmas.Bool.Decides.{nat_tests}
use Rattle.faults.specs.declared.Fault.{Fault}
use Rattle.faults.specs.declared.Fault.TheVariants.{OutsideLimits, PlaceOutOfOrder}
use Rattle.lasso.specs.declared.value.Value.TheVariants.{Open}
use Rattle.numbers.specs.Numbers.{Number, most_bytes, limit, encode, and_then, read_at, within, edition, Bytes}
use Rattle.numbers.specs.Lists.{Read, read, entry, entries, list, lists, list_bytes, Ascends, Good}
use Rattle.numbers.proofs.ListsSound.{never, ok_inj, then_inv, cond_inv, edition_sound, within_sound, lists_sound}
use Rattle.numbers.proofs.ListsComplete.{number, skip, within_complete, edition_complete, lists_complete}
use Rattle.source.proofs.Paths.{first_means}
use Rattle.logs.specs.Logs.{place_of, Said, Heading, heading, ended, parse, said_by, said, IsLog, log_of}
use Rattle.logs.specs.Meanings.{latest_of}
use Rattle.logs.specs.Told.{Refused, IsRead}
use Rattle.logs.proofs.Parses.{parse_inv, ok_of}
use Rattle.logs.proofs.Latest.{from_latest}
use Rattle.logs.proofs.Settles.{settles}

-- ---- what was read keeps the limits
module _ (f : ℕ → ℕ) (bs : List ℕ) (n : ℕ) where
  within_high : (at low high : ℕ) (v : Number) → within bs at low high ≡ Ok v → v.value ≤ high
  within_high at low high v e =
      let i = then_inv (read_at bs at) _ v e in
      let g = cond_inv (leb low i.0.value && leb i.0.value high) (Ok i.0) (OutsideLimits at) v i.2 in
      let b = leb-true i.0.value high (and_parts _ _ g.0).1 in
      subst (λ (x : Number). x.value ≤ high) (ok_inj i.0 v g.1) b

  entry_keeps : (at low : ℕ) (v : Number) → entry f bs at low n ≡ Ok v → (low ≤ f v.value) × (f v.value < n)
  entry_keeps at low v e =
      let i = then_inv (read_at bs at) _ v e in
      let g = cond_inv (leb low (f i.0.value) && ltb (f i.0.value) n) (Ok i.0) (PlaceOutOfOrder at) v i.2 in
      let a = and_parts _ _ g.0 in
      let P : Number → Type 0 = λ x. (low ≤ f x.value) × (f x.value < n) in
      subst P (ok_inj i.0 v g.1) (leb-true low (f i.0.value) a.0, ltb-true (f i.0.value) n a.1)

  entries_keep : (c low at : ℕ) (ps qs : List ℕ) (next : ℕ) → entries f bs n c low at ps ≡ Ok (read qs next) → (rs : List ℕ) × (qs ≡ ps ++ rs) × (length rs ≡ c) × Ascends f low n rs
  entries_keep zero low at ps qs next e =
      let p = ok_inj (read ps at) (read qs next) e in
      ([], sym (ap (λ (z : Read (List ℕ)). z.got) p) ∙ sym (append-nil ps), refl, tt)
  entries_keep (suc c) low at ps qs next e =
      let i = then_inv (entry f bs at low n) _ (read qs next) e in
      let v = i.0 in
      let h = entries_keep c (f v.value + 1) v.next (ps ++ v.value ∷ []) qs next i.2 in
      let k = entry_keeps at low v i.1 in
      (v.value ∷ h.0, h.1 ∙ append_assoc ps (v.value ∷ []) h.0, ap suc h.2, (k.0, k.1, h.3))

  list_keeps : (at : ℕ) (qs : List ℕ) (next : ℕ) → list f bs n at ≡ Ok (read qs next) → Ascends f 0 n qs × (length qs ≤ n)
  list_keeps at qs next e =
      let i = then_inv (within bs at 0 n) _ (read qs next) e in
      let h = entries_keep i.0.value 0 i.0.next [] qs next i.2 in
      let b = within_high at 0 n i.0 i.1 in
      (subst (Ascends f 0 n) (sym h.1) h.3, omega (arith, ap length h.1, h.2))

  lists_keep : (k at : ℕ) (rows out : List (List ℕ)) (next : ℕ) → lists f bs n k at rows ≡ Ok (read out next) → (rs : List (List ℕ)) × (out ≡ rows ++ rs) × (length rs ≡ k) × Good f n rs
  lists_keep zero at rows out next e =
      let p = ok_inj (read rows at) (read out next) e in
      ([], sym (ap (λ (z : Read (List (List ℕ))). z.got) p) ∙ sym (append-nil rows), refl, tt)
  lists_keep (suc k) at rows out next e =
      let i = then_inv (list f bs n at) _ (read out next) e in
      let h = lists_keep k i.0.next (rows ++ i.0.got ∷ []) out next i.2 in
      let g = list_keeps at i.0.got i.0.next i.1 in
      (i.0.got ∷ h.0, h.1 ∙ append_assoc rows (i.0.got ∷ []) h.0, ap suc h.2, (g.0, g.1, h.3))

-- ---- how a header was read
record Head (bs : List ℕ) (h : Heading) : Type 0 where
  few_places : h.places ≤ 768
  few_instants : h.instants ≤ 16
  bytes : Bytes bs → bs ≡ (encode 1 ++ (encode h.places ++ encode h.instants)) ++ drop h.next bs

glue : (e n k d : List ℕ) → e ++ (n ++ (k ++ d)) ≡ (e ++ (n ++ k)) ++ d
glue e n k d = simp append_assoc

heading_inv : (bs : List ℕ) (h : Heading) → heading bs ≡ Ok h → Head bs h
heading_inv bs h x =
    let a = then_inv (edition bs) _ h x in
    let n = then_inv (within bs a.0 0 768) _ h a.2 in
    let k = then_inv (within bs n.0.next 0 16) _ h n.2 in
    let same = ok_inj _ h k.2 in
    subst (Head bs) same (record {
      few_places = within_high place_of bs 0 a.0 0 768 n.0 n.1;
      few_instants = within_high place_of bs 0 n.0.next 0 16 k.0 k.1;
      bytes = λ b. edition_sound bs b a.0 a.1
          ∙ ap (λ z. encode 1 ++ z) (within_sound bs b a.0 0 768 n.0 n.1 ∙ ap (λ z. encode n.0.value ++ z) (within_sound bs b n.0.next 0 16 k.0 k.1))
          ∙ glue (encode 1) (encode n.0.value) (encode k.0.value) (drop k.0.next bs);
    })

fits : (bs : List ℕ) (d : Said) → parse bs ≡ Ok d → IsLog d
fits bs d x =
    let p = parse_inv bs d x in
    let h = heading_inv bs p.head p.headed in
    let k = lists_keep place_of bs p.head.places p.head.instants p.head.next [] d.marks p.end p.runs in
    record {
      few_places = omega (arith, h.few_places, p.places);
      few_instants = omega (arith, h.few_instants, p.instants);
      each = ap length k.1 ∙ k.2 ∙ p.instants;
      ascending = subst (λ (m : ℕ). Good place_of m d.marks) p.places (subst (Good place_of p.head.places) (sym k.1) k.3);
    }

sound : (bs : List ℕ) (d : Said) → Bytes bs → parse bs ≡ Ok d → bs ≡ log_of d
sound bs d b x =
    let p = parse_inv bs d x in
    let h = heading_inv bs p.head p.headed in
    let s = lists_sound place_of bs b p.head.places p.head.instants p.head.next [] d.marks p.end p.runs in
    let nil : drop p.end bs ≡ [] = drop_all p.end bs p.last in
    h.bytes b
    ∙ ap (λ z. (encode 1 ++ (encode p.head.places ++ encode p.head.instants)) ++ z) (s.2 ∙ ap (λ z. flat_map list_bytes s.0 ++ z) nil ∙ append-nil (flat_map list_bytes s.0) ∙ ap (flat_map list_bytes) (sym s.1))
    ∙ ap (λ m. (encode 1 ++ (encode m ++ encode p.head.instants)) ++ flat_map list_bytes d.marks) p.places
    ∙ ap (λ m. (encode 1 ++ (encode d.places ++ encode m)) ++ flat_map list_bytes d.marks) p.instants

-- ---- every log is read
small_mark : (v : ℕ) → place_of v < 768 → v < limit
small_mark v h = omega arith

length_mark : (v : ℕ) → v < 16384 → length (encode v) ≤ 2
length_mark v h = grind (arith, nat_tests)

marks_bound : (low n : ℕ) (rs : List ℕ) → n ≤ 768 → Ascends place_of low n rs → length (flat_map encode rs) ≤ 2 * length rs
marks_bound low n [] h a = omega arith
marks_bound low n (r ∷ rs) h a =
    let s : place_of r < 768 = omega (arith, a.1) in
    omega (arith, length-append (encode r) (flat_map encode rs), length_mark r (omega arith), marks_bound (place_of r + 1) n rs h a.2)

rows_bound : (n : ℕ) (rows : List (List ℕ)) → n ≤ 768 → Good place_of n rows → length (flat_map list_bytes rows) ≤ 1538 * length rows
rows_bound n [] h g = omega arith
rows_bound n (r ∷ rows) h g =
    omega (arith, length-append (list_bytes r) (flat_map list_bytes rows), length-append (encode (length r)) (flat_map encode r), length_mark (length r) (omega (arith, g.1)), marks_bound 0 n r h g.0, g.1, rows_bound n rows h g.2)

heading_run : (bs : List ℕ) (n k a1 a2 a3 : ℕ) → edition bs ≡ Ok a1 → within bs a1 0 768 ≡ Ok (number n a2) → within bs a2 0 16 ≡ Ok (number k a3) → heading bs ≡ Ok (record { places = n; instants = k; next = a3 })
heading_run bs n k a1 a2 a3 r0 r1 r2 =
    ap (λ r. and_then r (λ a. and_then (within bs a 0 768) (λ n. and_then (within bs n.next 0 16) (λ k. Ok (record { places = n.value; instants = k.value; next = k.next }))))) r0
    ∙ ap (λ r. and_then r (λ n. and_then (within bs n.next 0 16) (λ k. Ok (record { places = n.value; instants = k.value; next = k.next })))) r1
    ∙ ap (λ r. and_then r (λ k. Ok (record { places = n; instants = k.value; next = k.next }))) r2

parse_run : (bs : List ℕ) (h : Heading) (marks : List (List ℕ)) (end : ℕ) → length bs ≤ most_bytes → heading bs ≡ Ok h → lists place_of bs h.places h.instants h.next [] ≡ Ok (read marks end) → length bs ≤ end
    → parse bs ≡ Ok (record { places = h.places; instants = h.instants; marks = marks })
parse_run bs h marks end short e f g =
    cond-false (ltb most_bytes (length bs)) _ _ (le-ltb most_bytes (length bs) short)
    ∙ ap (λ r. and_then r (λ h. and_then (lists place_of bs h.places h.instants h.next []) (λ v. ended bs h v))) e
    ∙ ap (λ r. and_then r (λ v. ended bs h v)) f
    ∙ cond-false (ltb end (length bs)) _ _ (le-ltb end (length bs) g)

log_bound : (d : Said) → IsLog d → length (log_of d) ≤ most_bytes
log_bound d g =
    let n = encode d.places in
    let k = encode d.instants in
    let top : 1538 * length d.marks ≤ 24608 = omega (arith, g.each, g.few_instants) in
    omega (arith, length-append (encode 1 ++ (n ++ k)) (flat_map list_bytes d.marks), length-append n k, length_mark d.places (omega (arith, g.few_places)), length_mark d.instants (omega (arith, g.few_instants)), rows_bound d.places d.marks g.few_places g.ascending)

complete : (d : Said) → IsLog d → parse (log_of d) ≡ Ok d
complete d g =
    let bs = log_of d in
    let n = d.places in
    let k = d.instants in
    let rest = flat_map list_bytes d.marks in
    let e0 : drop 0 bs ≡ encode 1 ++ (encode n ++ (encode k ++ rest)) = sym (glue (encode 1) (encode n) (encode k) rest) in
    let a1 : ℕ = 0 + length (encode 1) in
    let e1 = skip bs 0 (encode 1) (encode n ++ (encode k ++ rest)) e0 in
    let a2 : ℕ = a1 + length (encode n) in
    let e2 = skip bs a1 (encode n) (encode k ++ rest) e1 in
    let a3 : ℕ = a2 + length (encode k) in
    let e3 = skip bs a2 (encode k) rest e2 in
    let r0 = edition_complete bs (encode n ++ (encode k ++ rest)) e0 in
    let r1 = within_complete bs a1 0 768 n (encode k ++ rest) e1 (omega (arith, g.few_places)) (omega arith) g.few_places in
    let r2 = within_complete bs a2 0 16 k rest e2 (omega (arith, g.few_instants)) (omega arith) g.few_instants in
    let h = heading_run bs n k a1 a2 a3 r0 r1 r2 in
    let s : lists place_of bs n k a3 [] ≡ Ok (read d.marks (a3 + length rest)) =
    ap (λ m. lists place_of bs n m a3 []) (sym g.each) ∙ lists_complete place_of small_mark bs n d.marks a3 [] [] g.few_places g.ascending (e3 ∙ sym (append-nil rest)) in
    let all : length bs ≤ a3 + length rest = omega (arith, length-drop a3 bs, ap length e3) in
    parse_run bs (record { places = n; instants = k; next = a3 }) d.marks (a3 + length rest) (log_bound d g) h s all

-- ---- the conclusions that contracts state
pub is_read : (bs : List ℕ) → Bytes bs → is_ok (parse bs) ≡ true → IsRead bs
is_read bs b ok =
    let d = ok_of (parse bs) ok in
    let s : parse bs ≡ Ok (said bs) = d.1 ∙ ap Ok (sym (ap said_by d.1)) in
    let w = sound bs (said bs) b s in
    record {
      ok = ok;
      accepted = record { says = s; fits = fits bs (said bs) s; is_log = w; one_log = λ other ob x. sound other (said bs) ob x ∙ sym w };
      latest_mark = λ p i h. from_latest p (said bs) i h;
      path = first_means (said bs).places (said bs).instants (λ p i. latest_of p Open (take (i + 1) (said bs).marks));
    }

pub is_refused : (bs : List ℕ) (f : Fault) → Bytes bs → parse bs ≡ Err f → Refused bs f
is_refused bs f bytes e = record { why = e; no_log = λ d g x. never f d (sym e ∙ ap parse x ∙ complete d g); settled = settles bs bytes f e }
