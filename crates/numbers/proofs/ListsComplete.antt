-- The bytes of numbers and lists are read, and say these.
use Rattle.std.proofs.Common.{◌≡◌, ℕ, ◌+◌, ◌<◌, ◌≤◌, cond, ◌&&◌, eqb, ltb, leb, List, [], ◌∷◌, ◌++◌, length, drop, Ok, Err, sym, refl, ap, ◌∙◌, append_assoc, append-nil, add-zero, arith, length-append}
use Rattle.std.specs.List.{flat_map}
use Rattle.std.proofs.lemmas.List.{drop-drop, drop_at}
use Rattle.std.proofs.lemmas.Bool.{cond-true, and_from, le-leb, lt-ltb}
use Rattle.faults.specs.declared.Fault.TheVariants.{UnknownEdition, OutsideLimits, PlaceOutOfOrder}
use Rattle.numbers.specs.Numbers.{Number, limit, encode, first, placed, and_then, read_at, within, edition}
use Rattle.numbers.specs.Lists.{read, entry, entries, list, lists, list_bytes, Ascends, Good}
use Rattle.numbers.proofs.Laws.{round}

abbrev pub number : ℕ → ℕ → Number
number v next = record { value = v; next = next }

module _ (bs : List ℕ) where
  pub skip : (at : ℕ) (xs rest : List ℕ) → drop at bs ≡ xs ++ rest → drop (at + length xs) bs ≡ rest
  skip at xs rest e = sym (drop-drop (length xs) at bs) ∙ ap (drop (length xs)) e ∙ drop_at xs rest (length xs) refl

  pub number_complete : (at v : ℕ) (rest : List ℕ) → drop at bs ≡ encode v ++ rest → v < limit → read_at bs at ≡ Ok (number v (at + length (encode v)))
  number_complete at v rest e h = ap (placed at (length bs)) (ap first e ∙ round v rest h)

  pub within_complete : (at low high v : ℕ) (rest : List ℕ) → drop at bs ≡ encode v ++ rest → v < limit → low ≤ v → v ≤ high → within bs at low high ≡ Ok (number v (at + length (encode v)))
  within_complete at low high v rest e h a b =
      ap (λ r. and_then r (λ n. cond (leb low n.value && leb n.value high) (Ok n) (Err (OutsideLimits at)))) (number_complete at v rest e h)
      ∙ cond-true _ _ _ (and_from _ _ (le-leb low v a) (le-leb v high b))

  pub edition_complete : (rest : List ℕ) → drop 0 bs ≡ encode 1 ++ rest → edition bs ≡ Ok (0 + length (encode 1))
  edition_complete rest e = ap (λ r. and_then r (λ n. cond (eqb n.value 1) (Ok n.next) (Err (UnknownEdition 0)))) (number_complete 0 1 rest e (omega arith))

-- a number whose place is small can be written
module _ (f : ℕ → ℕ) (small : (v : ℕ) → f v < 768 → v < limit) (bs : List ℕ) where
  pub entry_complete : (at low n v : ℕ) (rest : List ℕ) → n ≤ 768 → drop at bs ≡ encode v ++ rest → low ≤ f v → f v < n → entry f bs at low n ≡ Ok (number v (at + length (encode v)))
  entry_complete at low n v rest k e a b =
      ap (λ r. and_then r (λ m. cond (leb low (f m.value) && ltb (f m.value) n) (Ok m) (Err (PlaceOutOfOrder at)))) (number_complete bs at v rest e (small v (omega (arith, b))))
      ∙ cond-true _ _ _ (and_from _ _ (le-leb low (f v) a) (lt-ltb (f v) n b))

  pub entries_complete : (n : ℕ) (rs : List ℕ) (low at : ℕ) (ps rest : List ℕ) → n ≤ 768 → Ascends f low n rs → drop at bs ≡ flat_map encode rs ++ rest → entries f bs n (length rs) low at ps ≡ Ok (read (ps ++ rs) (at + length (flat_map encode rs)))
  entries_complete n [] low at ps rest k s e = ap (λ z. Ok (read z at)) (sym (append-nil ps)) ∙ ap (λ m. Ok (read (ps ++ []) m)) (sym (add-zero at))
  entries_complete n (r ∷ rs) low at ps rest k s e =
      let d : drop at bs ≡ encode r ++ (flat_map encode rs ++ rest) = e ∙ append_assoc (encode r) (flat_map encode rs) rest in
      let len : at + length (encode r) + length (flat_map encode rs) ≡ at + length (encode r ++ flat_map encode rs) = omega (arith, length-append (encode r) (flat_map encode rs)) in
      ap (λ x. and_then x (λ v. entries f bs n (length rs) (f v.value + 1) v.next (ps ++ v.value ∷ []))) (entry_complete at low n r (flat_map encode rs ++ rest) k d s.0 s.1)
      ∙ entries_complete n rs (f r + 1) (at + length (encode r)) (ps ++ r ∷ []) rest k s.2 (skip bs at (encode r) (flat_map encode rs ++ rest) d)
      ∙ ap (λ z. Ok (read z (at + length (encode r) + length (flat_map encode rs)))) (append_assoc ps (r ∷ []) rs)
      ∙ ap (λ m. Ok (read (ps ++ r ∷ rs) m)) len

  pub list_complete : (n at : ℕ) (ps rest : List ℕ) → n ≤ 768 → Ascends f 0 n ps → length ps ≤ n → drop at bs ≡ list_bytes ps ++ rest → list f bs n at ≡ Ok (read ps (at + length (list_bytes ps)))
  list_complete n at ps rest k s b e =
      let d : drop at bs ≡ encode (length ps) ++ (flat_map encode ps ++ rest) = e ∙ append_assoc (encode (length ps)) (flat_map encode ps) rest in
      let len : at + length (encode (length ps)) + length (flat_map encode ps) ≡ at + length (list_bytes ps) = omega (arith, length-append (encode (length ps)) (flat_map encode ps)) in
      ap (λ r. and_then r (λ v. entries f bs n v.value 0 v.next [])) (within_complete bs at 0 n (length ps) (flat_map encode ps ++ rest) d (omega arith) (omega arith) b)
      ∙ entries_complete n ps 0 (at + length (encode (length ps))) [] rest k s (skip bs at (encode (length ps)) (flat_map encode ps ++ rest) d)
      ∙ ap (λ m. Ok (read ps m)) len

  pub lists_complete : (n : ℕ) (rs : List (List ℕ)) (at : ℕ) (rows : List (List ℕ)) (rest : List ℕ) → n ≤ 768 → Good f n rs → drop at bs ≡ flat_map list_bytes rs ++ rest → lists f bs n (length rs) at rows ≡ Ok (read (rows ++ rs) (at + length (flat_map list_bytes rs)))
  lists_complete n [] at rows rest k g e = ap (λ z. Ok (read z at)) (sym (append-nil rows)) ∙ ap (λ m. Ok (read (rows ++ []) m)) (sym (add-zero at))
  lists_complete n (r ∷ rs) at rows rest k g e =
      let d : drop at bs ≡ list_bytes r ++ (flat_map list_bytes rs ++ rest) = e ∙ append_assoc (list_bytes r) (flat_map list_bytes rs) rest in
      let len : at + length (list_bytes r) + length (flat_map list_bytes rs) ≡ at + length (list_bytes r ++ flat_map list_bytes rs) = omega (arith, length-append (list_bytes r) (flat_map list_bytes rs)) in
      ap (λ x. and_then x (λ v. lists f bs n (length rs) v.next (rows ++ v.got ∷ []))) (list_complete n at r (flat_map list_bytes rs ++ rest) k g.0 g.1 d)
      ∙ lists_complete n rs (at + length (list_bytes r)) (rows ++ r ∷ []) rest k g.2 (skip bs at (list_bytes r) (flat_map list_bytes rs ++ rest) d)
      ∙ ap (λ z. Ok (read z (at + length (list_bytes r) + length (flat_map list_bytes rs)))) (append_assoc rows (r ∷ []) rs)
      ∙ ap (λ m. Ok (read (rows ++ r ∷ rs) m)) len
