-- What the first value found means.
use Rattle.std.proofs.Common.{◌≡◌, ◌≢◌, ℕ, ◌<◌, Some, None, Option, List, length, map, sym, ◌∙◌, arith, MatchOption, unwrap_or}
use Rattle.std.proofs.lemmas.List.FromFn.{length-map-range_with_len, get_or-map-range_with_len}
use Rattle.std.specs.List.{range_with_len, AllWithin, HoldsAt}
use Rattle.lasso.specs.declared.value.Value.{Value}
use Rattle.lasso.specs.declared.value.Value.TheVariants.{Open}
use Rattle.table.specs.declared.table.Table.{Table}
use Rattle.table.specs.Tables.{value_in}
use Rattle.known.specs.States.{ToldOnce, once, never}

-- the values of a place in the states of a table
abbrev pub told_values : Table → ℕ → ℕ → List Value
told_values t place n = map (λ s. value_in t s place) (range_with_len 0 n)

-- the first of them that is not open, or open
pub first_told : (t : Table) (place n : ℕ) (o : Option Value) → n ≡ t.shape.states
    → MatchOption o (AllWithin (λ v. v ≡ Open) (told_values t place n) 0 (length (told_values t place n))) (λ x. (x ≢ Open) × (i : ℕ) × (i < length (told_values t place n)) × HoldsAt (λ v. v ≡ x) (told_values t place n) i × AllWithin (λ v. v ≡ Open) (told_values t place n) 0 i)
    → ToldOnce t place (unwrap_or o Open)
first_told t place n None e h = never (λ s l.
    let b : s < n = omega (arith, l, e) in
    sym (get_or-map-range_with_len (λ k. value_in t k place) 0 n s s Open b (omega arith)) ∙ h s Open (omega arith) (omega (arith, b, length-map-range_with_len (λ k. value_in t k place) 0 n)))
first_told t place n (Some x) e (other, i, l, at, before) =
    let b : i < n = omega (arith, l, length-map-range_with_len (λ k. value_in t k place) 0 n) in
    once i (omega (arith, b, e)) (sym (get_or-map-range_with_len (λ k. value_in t k place) 0 n i i Open b (omega arith)) ∙ at Open) other
