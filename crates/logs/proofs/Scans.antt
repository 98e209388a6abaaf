-- What the loop over the marks of an instant keeps.
use Rattle.std.proofs.Common.{◌≡◌, ℕ, ◌+◌, ◌-◌, ◌<◌, cond, eqb, List, [], ◌∷◌, ◌++◌, Ok, Err, sym, refl, ap, ◌∙◌, subst}
use Rattle.faults.specs.declared.Fault.{Fault}
use Rattle.lasso.specs.declared.value.Value.{Value}
use Rattle.numbers.specs.Lists.{Read, read, entry, entries, list}
use Rattle.numbers.proofs.Lists.{entries_got, entries_err}
use Rattle.logs.specs.Logs.{place_of}
use Rattle.logs.specs.Meanings.{mark, latest, latest_of}
use Rattle.logs.specs.declared.marks.Mark.{Mark}
use Rattle.numbers.proofs.ListsSound.{ok_inj, then_inv}
use Rattle.logs.specs.Told.{mark_in, mark_at}

latest_push : (p : ℕ) (v : Value) (ms : List ℕ) (m : ℕ) → latest p v (ms ++ m ∷ []) ≡ mark p (latest p v ms) m
latest_push p v [] m = refl
latest_push p v (x ∷ ms) m = latest_push p (mark p v x) ms m

pub latest_of_push : (p : ℕ) (v : Value) (rows : List (List ℕ)) (ms : List ℕ) → latest_of p v (rows ++ ms ∷ []) ≡ latest p (latest_of p v rows) ms
latest_of_push p v [] ms = refl
latest_of_push p v (x ∷ rows) ms = latest_of_push p (latest p v x) rows ms

-- of the list at `from`, so many entries are left, from `at` on; the marks before them make w of the value v of the place p
pub record Scanned (bs : List ℕ) (n from left low at p : ℕ) (v w : Value) : Type 0 where
  pub marks : List ℕ
  pub same : list place_of bs n from ≡ entries place_of bs n left low at marks
  pub says : w ≡ latest p v marks

module _ (bs : List ℕ) (n from p : ℕ) (v : Value) where
  pub scan_more : (left low at next : ℕ) (w : Value) (m : Mark) → 0 < left → Scanned bs n from left low at p v w → mark_at bs at low n ≡ Ok (read m next)
      → Scanned bs n from (left - 1) (m.place + 1) next p v (cond (eqb m.place p) m.value w)
  scan_more left low at next w m h s e =
      let x = then_inv (entry place_of bs at low n) (λ v. Ok (read (mark_in v.value) v.next)) (read m next) e in
      let P : Read Mark → Type 0 = λ r. Scanned bs n from (left - 1) (r.got.place + 1) r.next p v (cond (eqb r.got.place p) r.got.value w) in
      subst P (ok_inj (read (mark_in x.0.value) x.0.next) (read m next) x.2) (record {
        marks = s.marks ++ x.0.value ∷ [];
        same = s.same ∙ entries_got place_of bs n left low at s.marks x.0 h x.1;
        says = ap (λ z. mark p z x.0.value) s.says ∙ sym (latest_push p v s.marks x.0.value);
      })

  pub scan_wrong : (left low at : ℕ) (w : Value) (f : Fault) → 0 < left → Scanned bs n from left low at p v w → entry place_of bs at low n ≡ Err f → list place_of bs n from ≡ Err f
  scan_wrong left low at w f h s e = s.same ∙ entries_err place_of bs n left low at s.marks f h e
