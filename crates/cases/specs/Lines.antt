-- Where a sign stands first in a text. Assumes nothing.
use Rattle.std.specs.Prelude.{◌≡◌, ℕ, ◌+◌, ◌<◌, ◌≤◌, List, length, take, drop, ◌≢◌, slice_index}

-- at an index stands the sign, or there the text ends, and nowhere before it
pub record First (text : List ℕ) (sign at : ℕ) : Type 0 where
  pub within : at ≤ length text
  pub before : (k : ℕ) → k < at → slice_index text k ≢ sign
  pub found : at < length text → slice_index text at ≡ sign

-- a text is cut at the first sign: what stands before it, and what stands after it
pub record Cut (text : List ℕ) (sign : ℕ) (before after : List ℕ) : Type 0 where
  pub at : ℕ
  pub first : First text sign at
  pub front : before ≡ take at text
  pub back : after ≡ drop (at + 1) text
