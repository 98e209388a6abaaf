-- What the loops of the reader keep.
use Rattle.std.proofs.Common.{◌≡◌, ℕ, suc, ◌+◌, ◌-◌, ◌<◌, ◌≤◌, Bool, true, false, List, [], ◌∷◌, ◌++◌, map, length, get_or, take, drop, set, replicate, Ok, Err, sym, refl, ap, ◌∙◌, inl, inr, ⊎_elim, append-nil, zero-add, arith, take-append-drop}
use Rattle.std.proofs.lemmas.List.{set_split, drop-drop, drop-replicate, drop-set-lt, length-set, length-take-le, take_more_set, map_push, get_or-set_other, get_or-set_same, get_or_past, get_or-drop, get_or_append_left, get_or-append_right, get_or-replicate, length-replicate}
use Rattle.std.proofs.lemmas.Bool.{cases_eq, cases_lt}
use Rattle.trace.specs.Tables.{holds, Empty, NoneOutside}
use Rattle.faults.specs.declared.Fault.{Fault}
use Rattle.numbers.specs.Numbers.{Number}
use Rattle.numbers.specs.Lists.{read, entry, entries, list, lists}
use Rattle.numbers.proofs.Lists.{entries_got, entries_err, lists_got, lists_err}
use Rattle.record.specs.Records.{itself, helds, rows_of}
use Rattle.record.proofs.Rows.{helds_append, helds_blank}

-- nothing is held from low on
abbrev pub Blank : ℕ → List Bool → Type 0
Blank low row = drop low row ≡ replicate (length row - low) false

blank_on : (row : List Bool) (low p : ℕ) → low ≤ p → Blank low row → Blank p row
blank_on row low p h b =
    let e : low + (p - low) ≡ p = omega arith in
    let f : length row - low - (p - low) ≡ length row - p = omega arith in
    ap (λ n. drop n row) (sym e) ∙ sym (drop-drop (p - low) low row) ∙ ap (drop (p - low)) b ∙ drop-replicate (p - low) (length row - low) false ∙ ap (λ n. replicate n false) f

blank_set : (row : List Bool) (low p : ℕ) → low ≤ p → Blank low row → Blank (p + 1) (set row p true)
blank_set row low p h b = drop-set-lt (p + 1) row p true (omega arith) ∙ blank_on row low (p + 1) (omega arith) b ∙ ap (λ n. replicate (n - (p + 1)) false) (sym (length-set row p true))

helds_set : (row : List Bool) (low p : ℕ) → low ≤ p → p < length row → Blank low row → helds 0 (set row p true) ≡ helds 0 row ++ p ∷ []
helds_set row low p h k b =
    let n : 0 + length (take p row) ≡ p = ap (λ m. 0 + m) (length-take-le p row (omega arith)) ∙ zero-add p in
    let up : suc p ≡ p + 1 = omega arith in
    let tail : helds (p + 1) (drop (suc p) row) ≡ [] = ap (helds (p + 1)) (ap (λ m. drop m row) up ∙ blank_on row low (p + 1) (omega arith) b) ∙ helds_blank (p + 1) (length row - (p + 1)) in
    let rest : helds p (drop p row) ≡ [] = ap (helds p) (blank_on row low p h b) ∙ helds_blank p (length row - p) in
    let before : helds 0 row ≡ helds 0 (take p row) = ap (helds 0) (sym (take-append-drop p row)) ∙ helds_append 0 (take p row) (drop p row) ∙ ap (λ m. helds 0 (take p row) ++ helds m (drop p row)) n ∙ ap (λ z. helds 0 (take p row) ++ z) rest ∙ append-nil (helds 0 (take p row)) in
    ap (helds 0) (set_split row p true k) ∙ helds_append 0 (take p row) (true ∷ drop (suc p) row) ∙ ap (λ m. helds 0 (take p row) ++ helds m (true ∷ drop (suc p) row)) n ∙ ap (λ z. helds 0 (take p row) ++ p ∷ z) tail ∙ ap (λ z. z ++ p ∷ []) (sym before)

none_in : (m p : ℕ) → get_or (replicate m false) p false ≡ false
none_in m p = ⊎_elim (λ lo. get_or-replicate m p false false lo) (λ hi. get_or_past (replicate m false) p false (omega (arith, length-replicate m false))) (cases_lt p m)

-- of the list at `from`, so many places are left, from `at` on; the row holds those before them, and nothing from `low` on
pub record Filling (bs : List ℕ) (n from left low at : ℕ) (row : List Bool) : Type 0 where
  pub same : list itself bs n from ≡ entries itself bs n left low at (helds 0 row)
  pub blank : Blank low row
  pub below : low ≤ n
  pub wide : length row ≡ 768

module _ (bs : List ℕ) (n from : ℕ) where
  pub fill_more : (left low at : ℕ) (row : List Bool) (p : Number) → n ≤ 768 → 0 < left → Filling bs n from left low at row → entry itself bs at low n ≡ Ok p → low ≤ p.value → p.value < n
      → Filling bs n from (left - 1) (p.value + 1) p.next (set row p.value true)
  fill_more left low at row p few h s e lo hi = record {
    same = s.same ∙ entries_got itself bs n left low at (helds 0 row) p h e
        ∙ ap (entries itself bs n (left - 1) (p.value + 1) p.next) (sym (helds_set row low p.value lo (omega (arith, s.wide)) s.blank));
    blank = blank_set row low p.value lo s.blank;
    below = omega arith;
    wide = length-set row p.value true ∙ s.wide;
  }

  pub fill_wrong : (left low at : ℕ) (row : List Bool) (f : Fault) → 0 < left → Filling bs n from left low at row → entry itself bs at low n ≡ Err f → list itself bs n from ≡ Err f
  fill_wrong left low at row f h s e = s.same ∙ entries_err itself bs n left low at (helds 0 row) f h e

  pub fill_empty : (left low at : ℕ) (row : List Bool) → Filling bs n from left low at row → Empty row n
  fill_empty left low at row s p h =
      let e : low + (p - low) ≡ p = omega (arith, s.below) in
      ap (λ q. get_or row q false) (sym e) ∙ sym (get_or-drop low row (p - low) false) ∙ ap (λ z. get_or z (p - low) false) s.blank ∙ none_in (length row - low) (p - low)

-- of k lists from `from` on, those of the first i rows are read, up to `at`; the others are still blank
pub record RowsRead (bs : List ℕ) (n k from i at : ℕ) (rows : List (List Bool)) : Type 0 where
  pub same : lists itself bs n k from [] ≡ lists itself bs n (k - i) at (rows_of i rows)
  pub blank : (j : ℕ) → i ≤ j → j < k → get_or rows j [] ≡ replicate 768 false
  pub none : NoneOutside n i rows
  pub tall : length rows ≡ k

-- the row s of a table, once it is read
module _ (held : List (List Bool)) (s : ℕ) (row : List Bool) (h : s < length held) where
  rows_set : rows_of (s + 1) (set held s row) ≡ rows_of s held ++ helds 0 row ∷ []
  rows_set = ap (map (helds 0)) (take_more_set held s row h) ∙ map_push (helds 0) (take s held) row

  none_past : (n : ℕ) → Empty row n → NoneOutside n s held → NoneOutside n (s + 1) (set held s row)
  none_past n none o t p w =
      ⊎_elim
      (λ here.
      let far : n ≤ p = ⊎_elim (λ x. absurd (omega arith)) (λ x. x) w in
      ap (λ j. holds (set held s row) j p) here ∙ ap (λ z. get_or z p false) (get_or-set_same held s row [] h) ∙ none p far)
      (λ there. ap (λ z. get_or z p false) (get_or-set_other held s t row [] there) ∙ o t p (⊎_elim (λ x. inl (omega arith)) inr w))
      (cases_eq t s)

-- the row i is read
pub read_row : (bs : List ℕ) (n k from i at : ℕ) (rows : List (List Bool)) (row : List Bool) (next : ℕ) → i < k → RowsRead bs n k from i at rows → list itself bs n at ≡ Ok (read (helds 0 row) next) → Empty row n
    → RowsRead bs n k from (i + 1) next (set rows i row)
read_row bs n k from i at rows row next h w e none =
    let here : i < length rows = omega (arith, w.tall) in
    let less : k - i - 1 ≡ k - (i + 1) = omega arith in
    record {
      same = w.same ∙ lists_got itself bs n (k - i) at (rows_of i rows) (helds 0 row) next (omega arith) e
          ∙ ap (λ m. lists itself bs n m next (rows_of i rows ++ helds 0 row ∷ [])) less ∙ ap (lists itself bs n (k - (i + 1)) next) (sym (rows_set rows i row here));
      blank = λ j m b. get_or-set_other rows i j row [] (λ x. omega arith) ∙ w.blank j (omega arith) b;
      none = none_past rows i row here n none w.none;
      tall = length-set rows i row ∙ w.tall;
    }

pub read_wrong : (bs : List ℕ) (n k from i at : ℕ) (rows : List (List Bool)) (f : Fault) → i < k → RowsRead bs n k from i at rows → list itself bs n at ≡ Err f → lists itself bs n k from [] ≡ Err f
read_wrong bs n k from i at rows f h w e = w.same ∙ lists_err itself bs n (k - i) at (rows_of i rows) f (omega arith) e

-- all are read, and rows that hold nothing follow
pub none_after : (bs : List ℕ) (n k from i at m : ℕ) (rows held : List (List Bool)) → k ≤ i → RowsRead bs n k from i at rows → NoneOutside 0 0 held → NoneOutside n k (rows ++ drop m held)
none_after bs n k from i at m rows held all r blank s p w =
    ⊎_elim
    (λ (lo : s < length rows).
    ap (λ z. get_or z p false) (get_or_append_left rows (drop m held) [] s lo) ∙ r.none s p (⊎_elim (λ x. absurd (omega (arith, x, r.tall))) inr w))
    (λ (hi : length rows ≤ s).
    ap (λ z. get_or z p false) (get_or-append_right rows (drop m held) (length rows) s [] refl hi ∙ get_or-drop m held (s - length rows) [])
    ∙ blank (m + (s - length rows)) p (inl (omega arith)))
    (cases_lt s (length rows))
