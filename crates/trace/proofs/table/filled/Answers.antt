use Rattle.std.proofs.Common.{◌≡◌, ℕ, false, [], length, get_or, replicate, refl, ap, ◌∙◌, ⊎_elim, arith}
use Rattle.std.proofs.lemmas.List.{get_or-replicate, get_or_past, length-replicate}
use Rattle.std.proofs.lemmas.Bool.{cases_lt}
use Rattle.trace.specs.Tables.{holds}
use Rattle.trace.proofs.table.filled.Goals as goal

none_held : (n m s p : ℕ) → holds (replicate n (replicate m false)) s p ≡ false
none_held n m s p =
    ⊎_elim
    (λ lo. ap (λ row. get_or row p false) (get_or-replicate n s (replicate m false) [] lo)
    ∙ ⊎_elim (λ in_row. get_or-replicate m p false false in_row) (λ past. get_or_past (replicate m false) p false (omega (arith, length-replicate m false))) (cases_lt p m))
    (λ hi. ap (λ row. get_or row p false) (get_or_past (replicate n (replicate m false)) s [] (omega (arith, length-replicate n (replicate m false)))))
    (cases_lt s n)

pub returns : goal.returns
returns c =
    let v = c.args.value in
    record {
      nothing = λ e s p. ap (λ b. holds (replicate 8 (replicate 768 b)) s p) e ∙ none_held 8 768 s p;
      rows = λ e j _ h. get_or-replicate 8 j (replicate 768 v) [] h ∙ ap (replicate 768) e;
      tall = refl;
      wide = λ s h. ap length (get_or-replicate 8 s (replicate 768 v) [] h) ∙ length-replicate 768 v;
    }
