-- What is read up to a number at fault depends on no byte after it.
use Rattle.std.proofs.Common.{◌≡◌, ℕ, zero, suc, ◌+◌, ◌<◌, ◌≤◌, Bool, true, false, cond, ◌&&◌, eqb, ltb, leb, ◌⊎◌, List, [], ◌∷◌, ◌++◌, length, take, drop, Ok, Err, Result, sym, refl, ap, ◌∙◌, subst, inl, inr, ⊎_elim, arith}
use Rattle.std.proofs.lemmas.List.{drop-take, take-take}
use Rattle.std.proofs.lemmas.Result.{MatchResult-at_ok}
use Rattle.std.proofs.lemmas.Bool.{cases_lt, cond-true, cond-false, lt-ltb, le-ltb, false≢true}
use Rattle.std.proofs.lemmas.Bool.Decides.{nat_tests}
use Rattle.faults.specs.declared.Fault.{Fault}
use Rattle.faults.specs.declared.Fault.TheVariants.{EndsEarly, NotShortest, UnknownEdition, OutsideLimits, PlaceOutOfOrder, BytesLeftOver, TooManyBytes}
use Rattle.faults.specs.Table as table
use Rattle.numbers.specs.declared.read.Unread.TheVariants.{Ended, NotShortest as Longer}
use Rattle.numbers.specs.Numbers.{Number, most_bytes, encode, First, ended, wrong, first, placed, and_then, read_at, within, edition, Bytes, Stands, Refuses}
use Rattle.numbers.specs.Lists.{Read, read, entry, entries, list, lists}
use Rattle.numbers.specs.Settled.{by_number, Settled}
use Rattle.numbers.proofs.Laws.{read_exact}
use Rattle.numbers.proofs.ListsSound.{ok_inj, then_inv, cond_inv}

abbrev place : Fault → ℕ
place f = (table.entry f).place

-- ---- three bytes tell what bytes begin with
first_three : (s : List ℕ) → first (take 3 s) ≡ first s
first_three [] = refl
first_three (a ∷ []) = refl
first_three (a ∷ b ∷ []) = refl
first_three (a ∷ b ∷ d ∷ s) = grind (arith, nat_tests)

placed_same : (o : First) (at l l' : ℕ) → (o ≡ ended → ⊥) → placed at l o ≡ placed at l' o
placed_same (Ok v) at l l' h = refl
placed_same (Err Ended) at l l' h = absurd (h refl)
placed_same (Err Longer) at l l' h = refl

module _ (bs other : List ℕ) (n : ℕ) (same : take n other ≡ take n bs) where
  first_same : (at : ℕ) → at + 3 ≤ n → first (drop at other) ≡ first (drop at bs)
  first_same at h =
      let cut : take (at + 3) other ≡ take (at + 3) bs = sym (take-take (at + 3) n other h) ∙ ap (take (at + 3)) same ∙ take-take (at + 3) n bs h in
      sym (first_three (drop at other)) ∙ ap first (sym (drop-take at 3 other) ∙ ap (drop at) cut ∙ drop-take at 3 bs) ∙ first_three (drop at bs)

  read_same : (at : ℕ) → at + 3 ≤ n → (read_at bs at ≡ Err (EndsEarly (length bs)) → ⊥) → read_at other at ≡ read_at bs at
  read_same at h no_end =
      ap (placed at (length other)) (first_same at h) ∙ placed_same (first (drop at bs)) at (length other) (length bs) (λ e. no_end (ap (placed at (length bs)) e))

-- ---- how a reader came to a refusal
module _ {B : Type 0} where
  pub ok_err : (a : B) (x : Fault) → ◌≡◌ {A = Result B Fault} (Ok a) (Err x) → ⊥
  ok_err a x e = let z : ◌≡◌ {A = ℕ} 0 1 = cc in omega arith

  pub err_inj : (x y : Fault) → ◌≡◌ {A = Result B Fault} (Err x) (Err y) → x ≡ y
  err_inj x y e = cc

  pub then_err : {A : Type 0} (r : Result A Fault) (k : A → Result B Fault) (x : Fault) → and_then r k ≡ Err x → (r ≡ Err x) ⊎ ((a : A) × (r ≡ Ok a) × (k a ≡ Err x))
  then_err (Ok a) k x e = inr (a, refl, e)
  then_err (Err y) k x e = inl (ap (λ z. Err z) (err_inj y x e))

  pub cond_err : (t : Bool) (a : B) (y x : Fault) → cond t (Ok a) (Err y) ≡ Err x → y ≡ x
  cond_err true a y x e = absurd (ok_err a x e)
  cond_err false a y x e = err_inj y x e

  pub left_err : (t : Bool) (a : B) (y x : Fault) → cond t (Err y) (Ok a) ≡ Err x → y ≡ x
  left_err true a y x e = err_inj y x e
  left_err false a y x e = absurd (ok_err a x e)

not_ended : (x : Fault) (l : ℕ) → by_number x ≡ true → x ≡ EndsEarly l → ⊥
not_ended x l b e = false≢true (sym (ap by_number e) ∙ b)

some_bytes : (n : ℕ) → 1 ≤ length (encode n)
some_bytes n = grind (arith, nat_tests)

placed_err : (o : First) (at l : ℕ) (x : Fault) → by_number x ≡ true → placed at l o ≡ Err x → place x ≡ at
placed_err (Ok v) at l x b e = absurd (ok_err _ x e)
placed_err (Err Ended) at l x b e = absurd (not_ended x l b (sym (err_inj {B = Number} (EndsEarly l) x e)))
placed_err (Err Longer) at l x b e = sym (ap place (err_inj {B = Number} (NotShortest at) x e))

-- a refusal at or after a byte, which other bytes that begin alike get too
pub record Fixed {X : Type 0} (reads : List ℕ → Result X Fault) (bs : List ℕ) (at : ℕ) (x : Fault) : Type 0 where
  pub after : at ≤ place x
  pub alike : (other : List ℕ) → take (place x + 3) other ≡ take (place x + 3) bs → reads other ≡ Err x

-- something read up to a byte, which other bytes that begin alike give too
pub record Same {X : Type 0} (reads : List ℕ → Result X Fault) (bs : List ℕ) (at next : ℕ) (a : X) : Type 0 where
  pub after : at ≤ next
  pub alike : (other : List ℕ) (n : ℕ) → next + 3 ≤ n → take n other ≡ take n bs → reads other ≡ Ok a

-- one reader after another
pub chain : {A B : Type 0} (reads : List ℕ → Result A Fault) (k : List ℕ → A → Result B Fault) (next : A → ℕ) (bs : List ℕ) (at : ℕ) (x : Fault)
    → (reads bs ≡ Err x → Fixed reads bs at x) → ((a : A) → reads bs ≡ Ok a → Same reads bs at (next a) a) → ((a : A) → reads bs ≡ Ok a → k bs a ≡ Err x → Fixed (λ b. k b a) bs (next a) x)
    → and_then (reads bs) (k bs) ≡ Err x → Fixed (λ b. and_then (reads b) (k b)) bs at x
chain reads k next bs at x wrong right later e =
    ⊎_elim
    (λ z. let w = wrong z in record { after = w.after; alike = λ other s. ap (λ r. and_then r (k other)) (w.alike other s) })
    (λ w.
    let r = right w.0 w.1 in
    let l = later w.0 w.1 w.2 in
    record {
      after = omega (arith, r.after, l.after);
      alike = λ other s. ap (λ r. and_then r (k other)) (r.alike other (place x + 3) (omega (arith, l.after)) s) ∙ l.alike other s;
    })
    (then_err (reads bs) (k bs) x e)

pub chain_ok : {A B : Type 0} (reads : List ℕ → Result A Fault) (k : List ℕ → A → Result B Fault) (next : A → ℕ) (bs : List ℕ) (at : ℕ) (c : B) (end : ℕ)
    → ((a : A) → reads bs ≡ Ok a → Same reads bs at (next a) a) → ((a : A) → k bs a ≡ Ok c → Same (λ b. k b a) bs (next a) end c)
    → and_then (reads bs) (k bs) ≡ Ok c → Same (λ b. and_then (reads b) (k b)) bs at end c
chain_ok reads k next bs at c end right later e =
    let w = then_inv (reads bs) (k bs) c e in
    let r = right w.0 w.1 in
    let l = later w.0 w.2 in
    record {
      after = omega (arith, r.after, l.after);
      alike = λ other n h s. ap (λ r. and_then r (k other)) (r.alike other n (omega (arith, l.after)) s) ∙ l.alike other n h s;
    }

module _ (bs : List ℕ) (bytes : Bytes bs) where
  next_after : (at : ℕ) (v : Number) → read_at bs at ≡ Ok v → at < v.next
  next_after at v e =
      let s = MatchResult-at_ok (λ n. Stands bs at n.value n.next) (λ f. Refuses bs at f) v e (read_exact bs bytes at) in
      omega (arith, s.length_is, some_bytes v.value)

  -- a number that is read and tested
  module _ {A : Type 0} (test : Number → Bool) (gives : Number → A) (at : ℕ) (y : Fault) (here : place y ≡ at) where
    abbrev tested : List ℕ → Result A Fault
    tested b = and_then (read_at b at) (λ v. cond (test v) (Ok (gives v)) (Err y))

    pub tested_err : (x : Fault) → by_number x ≡ true → and_then (read_at bs at) (λ v. cond (test v) (Ok (gives v)) (Err y)) ≡ Err x
        → Fixed (λ b. and_then (read_at b at) (λ v. cond (test v) (Ok (gives v)) (Err y))) bs at x
    tested_err x b e =
        ⊎_elim
        (λ wrong.
        let p : place x ≡ at = placed_err (first (drop at bs)) at (length bs) x b wrong in
        record {
          after = omega arith;
          alike = λ other s. ap (λ r. and_then r (λ v. cond (test v) (Ok (gives v)) (Err y)))
              (read_same bs other (place x + 3) s at (omega arith) (λ z. not_ended x (length bs) b (err_inj {B = Number} x (EndsEarly (length bs)) (sym wrong ∙ z)))) ∙ e;
        })
        (λ w.
        let p : place x ≡ at = ap place (sym (cond_err (test w.0) (gives w.0) y x w.2)) ∙ here in
        record {
          after = omega arith;
          alike = λ other s. ap (λ r. and_then r (λ v. cond (test v) (Ok (gives v)) (Err y)))
              (read_same bs other (place x + 3) s at (omega arith) (λ z. ok_err {B = Number} w.0 (EndsEarly (length bs)) (sym w.1 ∙ z))) ∙ e;
        })
        (then_err (read_at bs at) (λ v. cond (test v) (Ok (gives v)) (Err y)) x e)

    pub tested_ok : (a : A) → and_then (read_at bs at) (λ v. cond (test v) (Ok (gives v)) (Err y)) ≡ Ok a
        → (v : Number) × (gives v ≡ a) × Same (λ b. and_then (read_at b at) (λ v. cond (test v) (Ok (gives v)) (Err y))) bs at v.next a
    tested_ok a e =
        let w = then_inv (read_at bs at) _ a e in
        let g = cond_inv (test w.0) (Ok (gives w.0)) y a w.2 in
        let next : at < w.0.next = next_after at w.0 w.1 in (
          w.0,
          ok_inj (gives w.0) a g.1,
          record {
            after = omega arith;
            alike = λ other n h s. ap (λ r. and_then r (λ v. cond (test v) (Ok (gives v)) (Err y)))
                (read_same bs other n s at (omega arith) (λ z. ok_err {B = Number} w.0 (EndsEarly (length bs)) (sym w.1 ∙ z))) ∙ e;
          },
        )

  -- the same where the number itself is what is given
  module _ (test : Number → Bool) (at : ℕ) (y : Fault) (here : place y ≡ at) where
    pub number_ok : (a : Number) → and_then (read_at bs at) (λ v. cond (test v) (Ok v) (Err y)) ≡ Ok a → Same (λ b. and_then (read_at b at) (λ v. cond (test v) (Ok v) (Err y))) bs at a.next a
    number_ok a e =
        let t = tested_ok test (λ v. v) at y here a e in
        subst (λ (u : Number). Same (λ b. and_then (read_at b at) (λ v. cond (test v) (Ok v) (Err y))) bs at u.next a) t.1 t.2

    pub number_err : (x : Fault) → by_number x ≡ true → and_then (read_at bs at) (λ v. cond (test v) (Ok v) (Err y)) ≡ Err x → Fixed (λ b. and_then (read_at b at) (λ v. cond (test v) (Ok v) (Err y))) bs at x
    number_err x b e = tested_err test (λ v. v) at y here x b e

  pub within_err : (at low high : ℕ) (x : Fault) → by_number x ≡ true → within bs at low high ≡ Err x → Fixed (λ b. within b at low high) bs at x
  within_err at low high x b e = number_err (λ n. leb low n.value && leb n.value high) at (OutsideLimits at) refl x b e

  pub within_ok : (at low high : ℕ) (a : Number) → within bs at low high ≡ Ok a → Same (λ b. within b at low high) bs at a.next a
  within_ok at low high a e = number_ok (λ n. leb low n.value && leb n.value high) at (OutsideLimits at) refl a e

  pub edition_err : (x : Fault) → by_number x ≡ true → edition bs ≡ Err x → Fixed edition bs 0 x
  edition_err x b e = tested_err (λ n. eqb n.value 1) (λ n. n.next) 0 (UnknownEdition 0) refl x b e

  pub edition_ok : (a : ℕ) → edition bs ≡ Ok a → Same edition bs 0 a a
  edition_ok a e =
      let t = tested_ok (λ n. eqb n.value 1) (λ n. n.next) 0 (UnknownEdition 0) refl a e in
      subst (λ (m : ℕ). Same edition bs 0 m a) t.1 t.2

  module _ (f : ℕ → ℕ) (n : ℕ) where
    entry_err : (at low : ℕ) (x : Fault) → by_number x ≡ true → entry f bs at low n ≡ Err x → Fixed (λ b. entry f b at low n) bs at x
    entry_err at low x b e = number_err (λ v. leb low (f v.value) && ltb (f v.value) n) at (PlaceOutOfOrder at) refl x b e

    entry_ok : (at low : ℕ) (a : Number) → entry f bs at low n ≡ Ok a → Same (λ b. entry f b at low n) bs at a.next a
    entry_ok at low a e = number_ok (λ v. leb low (f v.value) && ltb (f v.value) n) at (PlaceOutOfOrder at) refl a e

    entries_err : (c low at : ℕ) (ps : List ℕ) (x : Fault) → by_number x ≡ true → entries f bs n c low at ps ≡ Err x → Fixed (λ b. entries f b n c low at ps) bs at x
    entries_err zero low at ps x b e = absurd (ok_err (read ps at) x e)
    entries_err (suc c) low at ps x b e =
        chain (λ b. entry f b at low n) (λ b v. entries f b n c (f v.value + 1) v.next (ps ++ v.value ∷ [])) (λ v. v.next) bs at x
        (entry_err at low x b) (entry_ok at low) (λ v _. entries_err c (f v.value + 1) v.next (ps ++ v.value ∷ []) x b) e

    entries_ok : (c low at : ℕ) (ps : List ℕ) (r : Read (List ℕ)) → entries f bs n c low at ps ≡ Ok r → Same (λ b. entries f b n c low at ps) bs at r.next r
    entries_ok zero low at ps r e =
        let p = ok_inj (read ps at) r e in
        record { after = omega (arith, ap (λ (z : Read (List ℕ)). z.next) p); alike = λ other m h s. e }
    entries_ok (suc c) low at ps r e =
        chain_ok (λ b. entry f b at low n) (λ b v. entries f b n c (f v.value + 1) v.next (ps ++ v.value ∷ [])) (λ v. v.next) bs at r r.next
        (entry_ok at low) (λ v. entries_ok c (f v.value + 1) v.next (ps ++ v.value ∷ []) r) e

    list_err : (at : ℕ) (x : Fault) → by_number x ≡ true → list f bs n at ≡ Err x → Fixed (λ b. list f b n at) bs at x
    list_err at x b e =
        chain (λ b. within b at 0 n) (λ b v. entries f b n v.value 0 v.next []) (λ v. v.next) bs at x
        (within_err at 0 n x b) (within_ok at 0 n) (λ v _. entries_err v.value 0 v.next [] x b) e

    list_ok : (at : ℕ) (r : Read (List ℕ)) → list f bs n at ≡ Ok r → Same (λ b. list f b n at) bs at r.next r
    list_ok at r e =
        chain_ok (λ b. within b at 0 n) (λ b v. entries f b n v.value 0 v.next []) (λ v. v.next) bs at r r.next
        (within_ok at 0 n) (λ v. entries_ok v.value 0 v.next [] r) e

    pub lists_err : (k at : ℕ) (rows : List (List ℕ)) (x : Fault) → by_number x ≡ true → lists f bs n k at rows ≡ Err x → Fixed (λ b. lists f b n k at rows) bs at x
    lists_err zero at rows x b e = absurd (ok_err (read rows at) x e)
    lists_err (suc k) at rows x b e =
        chain (λ b. list f b n at) (λ b r. lists f b n k r.next (rows ++ r.got ∷ [])) (λ r. r.next) bs at x
        (list_err at x b) (list_ok at) (λ r _. lists_err k r.next (rows ++ r.got ∷ []) x b) e

-- ---- a whole record or log: not too long, a header, lists, and nothing left
module _ {H D : Type 0} (head : List ℕ → Result H Fault) (f : ℕ → ℕ) (places count next : H → ℕ) (gives : H → List (List ℕ) → D) where
  abbrev left : List ℕ → H → Read (List (List ℕ)) → Result D Fault
  left b h v = cond (ltb v.next (length b)) (Err (BytesLeftOver v.next)) (Ok (gives h v.got))

  abbrev rest : List ℕ → H → Result D Fault
  rest b h = and_then (lists f b (places h) (count h) (next h) []) (λ v. left b h v)

  abbrev whole : List ℕ → Result D Fault
  whole b = cond (ltb most_bytes (length b)) (Err TooManyBytes) (and_then (head b) (λ h. rest b h))

  module _ (bs : List ℕ) (bytes : Bytes bs) where
    -- bytes left over are no number at fault
    rest_err : (h : H) (x : Fault) → by_number x ≡ true → rest bs h ≡ Err x → Fixed (λ b. rest b h) bs (next h) x
    rest_err h x b e =
        ⊎_elim
        (λ wrong. let w = lists_err bs bytes f (places h) (count h) (next h) [] x b wrong in record { after = w.after; alike = λ other s. ap (λ r. and_then r (λ v. left other h v)) (w.alike other s) })
        (λ w. absurd (false≢true (ap by_number (left_err (ltb w.0.next (length bs)) _ (BytesLeftOver w.0.next) x w.2) ∙ b)))
        (then_err (lists f bs (places h) (count h) (next h) []) (λ v. left bs h v) x e)

    pub whole_settles : ((x : Fault) → by_number x ≡ true → head bs ≡ Err x → Fixed head bs 0 x) → ((h : H) → head bs ≡ Ok h → Same head bs 0 (next h) h) → (x : Fault)
        → cond (ltb most_bytes (length bs)) (Err TooManyBytes) (and_then (head bs) (λ h. rest bs h)) ≡ Err x → Settled whole bs x
    whole_settles wrong right x e b other short s =
        ⊎_elim
        (λ (long : most_bytes < length bs).
        absurd (false≢true (ap by_number (err_inj {B = D} TooManyBytes x (sym (cond-true (ltb most_bytes (length bs)) _ _ (lt-ltb most_bytes (length bs) long)) ∙ e)) ∙ b)))
        (λ (fits : length bs ≤ most_bytes).
        let r = chain head (λ b h. rest b h) next bs 0 x (wrong x b) right (λ h _. rest_err h x b) (sym (cond-false (ltb most_bytes (length bs)) _ _ (le-ltb most_bytes (length bs) fits)) ∙ e) in
        cond-false (ltb most_bytes (length other)) _ _ (le-ltb most_bytes (length other) short) ∙ r.alike other s)
        (cases_lt most_bytes (length bs))
