-- Bytes in hexadecimal, two digits each. Assumes nothing.
use Rattle.std.specs.Prelude.{◌≡◌, ℕ, ◌+◌, ◌-◌, ◌*◌, ◌<◌, cond, ◌&&◌, List, length, Some, None, Option, nat_le, slice_index}

-- the value of a digit: 0 to 9, a to f, A to F
abbrev pub digit_of : ℕ → Option ℕ
digit_of b = cond (nat_le 48 b && nat_le b 57) (Some (b - 48)) (cond (nat_le 97 b && nat_le b 102) (Some (b - 87)) (cond (nat_le 65 b && nat_le b 70) (Some (b - 55)) None))

abbrev pub both : Option ℕ → Option ℕ → Option ℕ
both (Some x) (Some y) = Some (x * 16 + y)
both (Some x) None = None
both None y = None

-- a text is bytes in hexadecimal: two digits for each, the high one first
pub record Hex (text bytes : List ℕ) : Type 0 where
  pub count : length text ≡ 2 * length bytes
  pub each : (k : ℕ) → k < length bytes → both (digit_of (slice_index text (2 * k))) (digit_of (slice_index text (2 * k + 1))) ≡ Some (slice_index bytes k)

-- something holds of the bytes that a text is in hexadecimal
pub record OfBytes (text : List ℕ) (P : List ℕ → Type 0) : Type 0 where
  pub bytes : List ℕ
  pub hex : Hex text bytes
  pub holds : P bytes

-- a text is no bytes in hexadecimal
abbrev pub NoHex : List ℕ → Type 0
NoHex text = (bytes : List ℕ) → Hex text bytes → ⊥
