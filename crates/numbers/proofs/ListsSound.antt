-- Bytes that are read as numbers and lists are the bytes of these.
use Rattle.std.proofs.Common.{◌≡◌, ℕ, zero, suc, ◌+◌, Bool, true, false, cond, ◌&&◌, eqb, ltb, leb, List, [], ◌∷◌, ◌++◌, length, drop, Ok, Err, Result, sym, refl, ap, ◌∙◌, append_assoc, append-nil, arith}
use Rattle.std.specs.List.{flat_map}
use Rattle.std.proofs.lemmas.Result.{MatchResult-at_ok}
use Rattle.std.proofs.lemmas.Bool.{eqb-true}
use Rattle.faults.specs.declared.Fault.{Fault}
use Rattle.faults.specs.declared.Fault.TheVariants.{UnknownEdition, OutsideLimits, PlaceOutOfOrder}
use Rattle.numbers.specs.Numbers.{Number, encode, and_then, read_at, within, edition, Bytes, Stands, Refuses}
use Rattle.numbers.specs.Lists.{read, entry, entries, list, lists, list_bytes}
use Rattle.numbers.proofs.Laws.{read_exact}

module _ {B : Type 0} where
  pub never : (x : Fault) (b : B) → ◌≡◌ {A = Result B Fault} (Err x) (Ok b) → ⊥
  never x b e = let z : ◌≡◌ {A = ℕ} 0 1 = cc in omega arith

  pub ok_inj : (a b : B) → ◌≡◌ {A = Result B Fault} (Ok a) (Ok b) → a ≡ b
  ok_inj a b e = cc

  pub then_inv : {A : Type 0} (r : Result A Fault) (f : A → Result B Fault) (b : B) → and_then r f ≡ Ok b → (a : A) × (r ≡ Ok a) × (f a ≡ Ok b)
  then_inv (Ok a) f b e = (a, refl, e)
  then_inv (Err x) f b e = absurd (never x b e)

  pub cond_inv : (t : Bool) (x : Result B Fault) (y : Fault) (b : B) → cond t x (Err y) ≡ Ok b → (t ≡ true) × (x ≡ Ok b)
  cond_inv true x y b e = (refl, e)
  cond_inv false x y b e = absurd (never y b e)

  pub cond_out : (t : Bool) (x : Result B Fault) (y : Fault) (b : B) → cond t (Err y) x ≡ Ok b → (t ≡ false) × (x ≡ Ok b)
  cond_out true x y b e = absurd (never y b e)
  cond_out false x y b e = (refl, e)

module _ (bs : List ℕ) (bytes : Bytes bs) where
  pub number_sound : (at : ℕ) (v : Number) → read_at bs at ≡ Ok v → drop at bs ≡ encode v.value ++ drop v.next bs
  number_sound at v e = (MatchResult-at_ok (λ n. Stands bs at n.value n.next) (λ x. Refuses bs at x) v e (read_exact bs bytes at)).bytes

  pub within_sound : (at low high : ℕ) (v : Number) → within bs at low high ≡ Ok v → drop at bs ≡ encode v.value ++ drop v.next bs
  within_sound at low high v e =
      let i = then_inv (read_at bs at) _ v e in
      let g = cond_inv (leb low i.0.value && leb i.0.value high) (Ok i.0) (OutsideLimits at) v i.2 in
      number_sound at v (i.1 ∙ g.1)

  pub edition_sound : (next : ℕ) → edition bs ≡ Ok next → bs ≡ encode 1 ++ drop next bs
  edition_sound next e =
      let i = then_inv (read_at bs 0) _ next e in
      let g = cond_inv (eqb i.0.value 1) (Ok i.0.next) (UnknownEdition 0) next i.2 in
      number_sound 0 i.0 i.1 ∙ ap (λ m. encode m ++ drop i.0.next bs) (eqb-true i.0.value 1 g.0) ∙ ap (λ m. encode 1 ++ drop m bs) (ok_inj i.0.next next g.1)

module _ (f : ℕ → ℕ) (bs : List ℕ) (bytes : Bytes bs) where
  pub entry_sound : (at low n : ℕ) (v : Number) → entry f bs at low n ≡ Ok v → drop at bs ≡ encode v.value ++ drop v.next bs
  entry_sound at low n v e =
      let i = then_inv (read_at bs at) _ v e in
      let g = cond_inv (leb low (f i.0.value) && ltb (f i.0.value) n) (Ok i.0) (PlaceOutOfOrder at) v i.2 in
      number_sound bs bytes at v (i.1 ∙ g.1)

  pub entries_sound : (n c low at : ℕ) (ps qs : List ℕ) (next : ℕ) → entries f bs n c low at ps ≡ Ok (read qs next) → (rs : List ℕ) × (qs ≡ ps ++ rs) × (length rs ≡ c) × (drop at bs ≡ flat_map encode rs ++ drop next bs)
  entries_sound n zero low at ps qs next e =
      let p = ok_inj (read ps at) (read qs next) e in
      ([], sym (ap (λ z. z.got) p) ∙ sym (append-nil ps), refl, ap (λ z. drop z.next bs) p)
  entries_sound n (suc c) low at ps qs next e =
      let i = then_inv (entry f bs at low n) _ (read qs next) e in
      let v = i.0 in
      let h = entries_sound n c (f v.value + 1) v.next (ps ++ v.value ∷ []) qs next i.2 in
      (v.value ∷ h.0, h.1 ∙ append_assoc ps (v.value ∷ []) h.0, ap suc h.2, entry_sound at low n v i.1 ∙ ap (λ z. encode v.value ++ z) h.3 ∙ sym (append_assoc (encode v.value) (flat_map encode h.0) (drop next bs)))

  pub list_sound : (n at : ℕ) (qs : List ℕ) (next : ℕ) → list f bs n at ≡ Ok (read qs next) → drop at bs ≡ list_bytes qs ++ drop next bs
  list_sound n at qs next e =
      let i = then_inv (within bs at 0 n) _ (read qs next) e in
      let v = i.0 in
      let h = entries_sound n v.value 0 v.next [] qs next i.2 in
      within_sound bs bytes at 0 n v i.1 ∙ ap (λ z. encode v.value ++ z) h.3 ∙ sym (append_assoc (encode v.value) (flat_map encode h.0) (drop next bs))
      ∙ ap (λ m. (encode m ++ flat_map encode h.0) ++ drop next bs) (sym h.2) ∙ ap (λ z. list_bytes z ++ drop next bs) (sym h.1)

  pub lists_sound : (n k at : ℕ) (rows out : List (List ℕ)) (next : ℕ) → lists f bs n k at rows ≡ Ok (read out next) → (rs : List (List ℕ)) × (out ≡ rows ++ rs) × (drop at bs ≡ flat_map list_bytes rs ++ drop next bs)
  lists_sound n zero at rows out next e =
      let p = ok_inj (read rows at) (read out next) e in
      ([], sym (ap (λ z. z.got) p) ∙ sym (append-nil rows), ap (λ z. drop z.next bs) p)
  lists_sound n (suc k) at rows out next e =
      let i = then_inv (list f bs n at) _ (read out next) e in
      let v = i.0 in
      let h = lists_sound n k v.next (rows ++ v.got ∷ []) out next i.2 in
      (v.got ∷ h.0, h.1 ∙ append_assoc rows (v.got ∷ []) h.0, list_sound n at v.got v.next i.1 ∙ ap (λ z. list_bytes v.got ++ z) h.2 ∙ sym (append_assoc (list_bytes v.got) (flat_map list_bytes h.0) (drop next bs)))
