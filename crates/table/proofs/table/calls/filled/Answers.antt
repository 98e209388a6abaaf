use Rattle.std.proofs.Common.{◌≡◌, ℕ, [], length, get_or, replicate, refl, ap, ◌∙◌, ⊎_elim, arith}
use Rattle.std.proofs.lemmas.List.{get_or-replicate, get_or_past, length-replicate}
use Rattle.std.proofs.lemmas.Bool.{cases_lt}
use Rattle.lasso.specs.declared.value.Value.TheVariants.{Open}
use Rattle.table.specs.Rows.{value_at}
use Rattle.table.proofs.table.calls.filled.Goals as goal

all_open : (n m s p : ℕ) → value_at (replicate n (replicate m Open)) s p ≡ Open
all_open n m s p =
    ⊎_elim
    (λ lo. ap (λ row. get_or row p Open) (get_or-replicate n s (replicate m Open) [] lo)
    ∙ ⊎_elim (λ in_row. get_or-replicate m p Open Open in_row) (λ past. get_or_past (replicate m Open) p Open (omega (arith, length-replicate m Open))) (cases_lt p m))
    (λ hi. ap (λ row. get_or row p Open) (get_or_past (replicate n (replicate m Open)) s [] (omega (arith, length-replicate n (replicate m Open)))))
    (cases_lt s n)

pub returns : goal.returns
returns c =
    let v = c.args.value in
    record {
      all = λ e s p. ap (λ x. value_at (replicate 17 (replicate 768 x)) s p) e ∙ all_open 17 768 s p;
      tall = refl;
      wide = λ s h. ap length (get_or-replicate 17 s (replicate 768 v) [] h) ∙ length-replicate 768 v;
    }
