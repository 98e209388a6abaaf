-- Values of tuples as numbers of two bits, four to a byte. Assumes nothing.
use Rattle.std.specs.Prelude.{ℕ, zero, suc, ◌+◌, ◌*◌, ◌/◌, ◌%◌, ◌^◌, slice_index}
use Rattle.lasso.specs.declared.value.Value.{Value}
use Rattle.lasso.specs.declared.value.Value.TheVariants.{No, Open, Yes}
use Rattle.meaning.specs.Tables.{Table}
use Rattle.tuples.specs.declared.packed.Packed.{Packed}

abbrev pub number_of : Value → ℕ
number_of No = 0
number_of Open = 1
number_of Yes = 2

abbrev pub value_of : ℕ → Value
value_of zero = No
value_of (suc zero) = Open
value_of (suc (suc n)) = Yes

-- one of the four values of a byte
abbrev pub value_in : ℕ → ℕ → Value
value_in four place = value_of (four / 2 ^ (2 * place) % 4)

-- the byte of four values of a table
abbrev pub four_of : Table → ℕ → ℕ
four_of f byte = number_of (f (byte * 4 + 0)) + 4 * number_of (f (byte * 4 + 1)) + 16 * number_of (f (byte * 4 + 2)) + 64 * number_of (f (byte * 4 + 3))

-- the values by the tuples' numbers: no beyond the last that a set has room for
unfoldable pub packed_table : {n : ℕ} → Packed n → Table
packed_table {n} p r = value_in (slice_index p.fours (r / 4)) (r % 4)
