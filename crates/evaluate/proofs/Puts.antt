-- What is right of all that is kept stays right.
use Rattle.std.proofs.Common.{◌≡◌, ℕ, zero, suc, ◌<◌, ◌≤◌, ◌≢◌, List, replicate, length, set, get_or, Option, Some, None, refl, sym, ap, ◌∙◌, subst, ◌⊎◌, inl, inr, ⊎_elim, arith, get_or-set_other, get_or-set_same}
use Rattle.std.proofs.lemmas.Bool.{cases_lt}
use Rattle.std.proofs.lemmas.List.{set_past}

-- at each place of a list, what stands there is right
abbrev pub Right : {T : Type 0} → (ℕ → T → Type 0) → List (Option T) → Type 0
Right {T} P ks = (j : ℕ) (x : T) → get_or ks j None ≡ Some x → P j x

module _ {T : Type 0} (P : ℕ → T → Type 0) where
  none_at : (o : Option T) (n j : ℕ) → get_or (replicate n o) j o ≡ o
  none_at o zero j = refl
  none_at o (suc n) zero = refl
  none_at o (suc n) (suc j) = none_at o n j

  -- where nothing is kept
  pub none_right : (n : ℕ) (ks : List (Option T)) → ks ≡ replicate n None → Right P ks
  none_right n ks h j x e =
      let none : get_or ks j None ≡ None = ap (λ (xs : List (Option T)). get_or xs j None) h ∙ none_at None n j in
      absurd (cc)

  -- where one more is kept
  pub put_right : (ks : List (Option T)) (m : ℕ) (x : T) → Right P ks → P m x → Right P (set ks m (Some x))
  put_right ks m x old new j y e =
      let other : j ≢ m → P j y = λ ne. old j y (sym (get_or-set_other ks m j (Some x) None ne) ∙ e) in
      let here : m ≡ j → m < length ks → P j y =
      λ q lt.
      let k : get_or (set ks m (Some x)) m None ≡ Some y = subst (λ (i : ℕ). get_or (set ks m (Some x)) i None ≡ Some y) (sym q) e in
      let s : get_or (set ks m (Some x)) m None ≡ Some x = get_or-set_same ks m (Some x) None lt in
      let i : x ≡ y = cc in
      subst (P j) i (subst (λ (i : ℕ). P i x) q new) in
      let beyond : length ks ≤ m → P j y = λ ge. old j y (ap (λ (xs : List (Option T)). get_or xs j None) (sym (set_past ks m (Some x) ge)) ∙ e) in
      ⊎_elim
      (λ lt. other (omega arith))
      (λ ge. ⊎_elim (λ gt. other (omega arith)) (λ le. ⊎_elim (λ lt. here (omega arith) lt) beyond (cases_lt m (length ks))) (cases_lt m j))
      (cases_lt j m)

  -- where one more is kept, at whatever place, or none
  pub put_few_right :
      (ks new : List (Option T)) (x : T) → Right P ks → ((m : ℕ) → P m x) → (new ≡ ks) ⊎ ((m : ℕ) × (new ≡ set ks m (Some x))) → Right P new
  put_few_right ks new x old own (inl e) = subst (Right P) (sym e) old
  put_few_right ks new x old own (inr (m, e)) = subst (Right P) (sym e) (put_right ks m x old (own m))
