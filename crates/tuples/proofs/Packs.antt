-- What is read of values that are packed is what was packed.
use Rattle.std.proofs.Common.{◌≡◌, ℕ, zero, suc, ◌+◌, ◌*◌, ◌/◌, ◌%◌, ◌^◌, ◌<◌, ◌≤◌, refl, ap, ◌∙◌, arith}
use Rattle.std.specs.Prelude.{slice_index}
use Rattle.lasso.specs.declared.value.Value.{Value}
use Rattle.lasso.specs.declared.value.Value.TheVariants.{No, Open, Yes}
use Rattle.meaning.specs.Tables.{Table}
use Rattle.tuples.specs.declared.packed.Packed.{Packed}
use Rattle.tuples.specs.declared.tuples.Tuples.{Tuples}
use Rattle.tuples.specs.Tabled.{table_of}
use Rattle.tuples.specs.Packing.{number_of, value_of, value_in, four_of, packed_table}

few : (v : Value) → number_of v ≤ 2
few No = omega arith
few Open = omega arith
few Yes = omega arith

same : (v : Value) → value_of (number_of v) ≡ v
same No = refl
same Open = refl
same Yes = refl

-- a number of two bits stands for its value
stands : (v : Value) (n : ℕ) → n ≡ number_of v → value_of n ≡ v
stands v n e = ap value_of e ∙ same v

-- what is read of a byte is what it was made of
read_of_byte : (f : Table) (byte place : ℕ) → place < 4 → value_in (four_of f byte) place ≡ f (byte * 4 + place)
read_of_byte f byte place h =
    let u = few (f (byte * 4 + 0)) in
    let v = few (f (byte * 4 + 1)) in
    let w = few (f (byte * 4 + 2)) in
    let x = few (f (byte * 4 + 3)) in
    elim place as (λ k. k < 4 → value_in (four_of f byte) k ≡ f (byte * 4 + k)) [
      | zero ↦ λ l. stands (f (byte * 4 + 0)) (four_of f byte / 2 ^ (2 * 0) % 4) (omega (arith, u, v, w, x))
      | suc zero ↦ λ l. stands (f (byte * 4 + 1)) (four_of f byte / 2 ^ (2 * 1) % 4) (omega (arith, u, v, w, x))
      | suc (suc zero) ↦ λ l. stands (f (byte * 4 + 2)) (four_of f byte / 2 ^ (2 * 2) % 4) (omega (arith, u, v, w, x))
      | suc (suc (suc zero)) ↦ λ l. stands (f (byte * 4 + 3)) (four_of f byte / 2 ^ (2 * 3) % 4) (omega (arith, u, v, w, x))
      | suc (suc (suc (suc k))) ↦ λ l. absurd (omega (arith, l))
    ] h

pub read_at :
    {n : ℕ} (p : Packed n) (t : Tuples) → ((byte : ℕ) → byte < n → slice_index p.fours byte ≡ four_of (table_of t) byte) →
    (r : ℕ) → r < 4 * n → packed_table p r ≡ table_of t r
unfolding packed_table
read_at {n} p t each r l =
    let here : r / 4 * 4 + r % 4 ≡ r = omega arith in
    ap (λ (four : ℕ). value_in four (r % 4)) (each (r / 4) (omega (arith, l))) ∙ read_of_byte (table_of t) (r / 4) (r % 4) (omega arith) ∙ ap (table_of t) here
