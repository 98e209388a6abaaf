-- Counted lists: what each step of reading one makes of the rest, and lists that ascend within wider limits.
use Rattle.std.proofs.Common.{◌≡◌, ℕ, zero, suc, ◌+◌, ◌-◌, ◌<◌, ◌≤◌, List, [], ◌∷◌, ◌++◌, Ok, Err, ap, ◌∙◌, arith}
use Rattle.faults.specs.declared.Fault.{Fault}
use Rattle.numbers.specs.Numbers.{Number, and_then}
use Rattle.numbers.specs.Lists.{read, entry, entries, list, lists, Ascends}

module _ (f : ℕ → ℕ) (bs : List ℕ) (n : ℕ) where
  pub entries_got : (left low at : ℕ) (ps : List ℕ) (v : Number) → 0 < left → entry f bs at low n ≡ Ok v → entries f bs n left low at ps ≡ entries f bs n (left - 1) (f v.value + 1) v.next (ps ++ v.value ∷ [])
  entries_got zero low at ps v h e = absurd (omega arith)
  entries_got (suc c) low at ps v h e =
      let back : c ≡ suc c - 1 = omega arith in
      ap (λ r. and_then r (λ v. entries f bs n c (f v.value + 1) v.next (ps ++ v.value ∷ []))) e
      ∙ ap (λ m. entries f bs n m (f v.value + 1) v.next (ps ++ v.value ∷ [])) back

  pub entries_err : (left low at : ℕ) (ps : List ℕ) (x : Fault) → 0 < left → entry f bs at low n ≡ Err x → entries f bs n left low at ps ≡ Err x
  entries_err zero low at ps x h e = absurd (omega arith)
  entries_err (suc c) low at ps x h e = ap (λ r. and_then r (λ v. entries f bs n c (f v.value + 1) v.next (ps ++ v.value ∷ []))) e

  pub lists_got : (k at : ℕ) (rows : List (List ℕ)) (ps : List ℕ) (next : ℕ) → 0 < k → list f bs n at ≡ Ok (read ps next) → lists f bs n k at rows ≡ lists f bs n (k - 1) next (rows ++ ps ∷ [])
  lists_got zero at rows ps next h e = absurd (omega arith)
  lists_got (suc k) at rows ps next h e =
      let back : k ≡ suc k - 1 = omega arith in
      ap (λ r. and_then r (λ v. lists f bs n k v.next (rows ++ v.got ∷ []))) e ∙ ap (λ m. lists f bs n m next (rows ++ ps ∷ [])) back

  pub lists_err : (k at : ℕ) (rows : List (List ℕ)) (x : Fault) → 0 < k → list f bs n at ≡ Err x → lists f bs n k at rows ≡ Err x
  lists_err zero at rows x h e = absurd (omega arith)
  lists_err (suc k) at rows x h e = ap (λ r. and_then r (λ v. lists f bs n k v.next (rows ++ v.got ∷ []))) e

module _ (f : ℕ → ℕ) where
  pub ascends_low : (a b n : ℕ) (rs : List ℕ) → a ≤ b → Ascends f b n rs → Ascends f a n rs
  ascends_low a b n [] h s = tt
  ascends_low a b n (r ∷ rs) h s = (omega (arith, s.0), s.1, s.2)

  pub ascends_high : (a m n : ℕ) (rs : List ℕ) → m ≤ n → Ascends f a m rs → Ascends f a n rs
  ascends_high a m n [] h s = tt
  ascends_high a m n (r ∷ rs) h s = (s.0, omega (arith, s.1), ascends_high (f r + 1) m n rs h s.2)
