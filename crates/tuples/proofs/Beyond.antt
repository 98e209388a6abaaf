-- The number of a tuple that is put together from two may be cut off where it is beyond the last.
use Rattle.std.proofs.Common.{◌≡◌, ℕ, ◌+◌, ◌*◌, ◌≤◌, List, length, min, sym, ap, ap₂, ◌∙◌, ⊎_elim, arith}
use Rattle.std.proofs.Math.Nat.{le-mul_of_pos_right}
use Rattle.std.proofs.lemmas.Bool.{cases_lt}
use Rattle.std.proofs.lemmas.List.{get_or_past}
use Rattle.lasso.specs.declared.value.Value.{Value}
use Rattle.lasso.specs.declared.value.Value.TheVariants.{No}
use Rattle.meaning.specs.Tables.{table_at}

-- both numbers are beyond the last tuple
both_past : (vs : List Value) (a b : ℕ) → length vs ≤ a → length vs ≤ b → table_at vs a ≡ table_at vs b
both_past vs a b h k = get_or_past vs a No h ∙ sym (get_or_past vs b No k)

pub same_value :
    (vs : List Value) (first width last : ℕ) → length vs ≡ 512 → 1 ≤ width → table_at vs (min first 512 * width + min last 512) ≡ table_at vs (first * width + last)
same_value vs first width last len some =
    let u : first ≤ first * width = le-mul_of_pos_right first some in
    let v : min first 512 ≤ min first 512 * width = le-mul_of_pos_right (min first 512) some in
    ⊎_elim
    (λ f. ⊎_elim
    (λ l. let a : min first 512 ≡ first = omega arith in let b : min last 512 ≡ last = omega arith in ap (table_at vs) (ap₂ (λ x y. x * width + y) a b))
    (λ l. both_past vs (min first 512 * width + min last 512) (first * width + last) (omega (arith, len, l)) (omega (arith, len, l)))
    (cases_lt last 512))
    (λ f. both_past vs (min first 512 * width + min last 512) (first * width + last) (omega (arith, len, f, v)) (omega (arith, len, f, u)))
    (cases_lt first 512)
