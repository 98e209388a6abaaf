-- Numbers in groups of seven bits, lowest first, in their shortest form. Assumes nothing.
use Rattle.std.specs.Prelude.{◌≡◌, ℕ, ◌+◌, ◌-◌, ◌*◌, ◌/◌, ◌%◌, ◌^◌, ◌<◌, cond, ◌&&◌, List, [], ◌∷◌, ◌++◌, length, drop, Ok, Err, Result, ◌==◌, nat_le, nat_lt, slice_index}
use Rattle.faults.specs.declared.Fault.{Fault}
use Rattle.faults.specs.declared.Fault.TheVariants.{EndsEarly, NotShortest, UnknownEdition, OutsideLimits, BytesLeftOver, BufferTooShort}
use Rattle.numbers.specs.declared.read.Leading.{Leading}
use Rattle.numbers.specs.declared.read.Unread.{Unread}
use Rattle.numbers.specs.declared.read.Unread.TheVariants.{Ended, NotShortest as Longer}

-- a number that was read, and the byte after it
pub record Number : Type 0 where
  pub value : ℕ
  pub next : ℕ

-- the most bytes of a record or a log
abbrev pub most_bytes : ℕ
most_bytes = 32768

-- one number more than can be written
abbrev pub limit : ℕ
limit = 2 ^ 21

-- the bytes of a number: one, two or three groups, each but the last with 128 added
abbrev pub encode : ℕ → List ℕ
encode n = cond (nat_lt n 128) (n ∷ []) (cond (nat_lt n 16384) ((n % 128 + 128) ∷ (n / 128) ∷ []) ((n % 128 + 128) ∷ (n / 128 % 128 + 128) ∷ (n / 16384) ∷ []))

-- xs written over the start of a buffer: the bytes beyond stay
abbrev pub over : List ℕ → List ℕ → List ℕ
over xs old = xs ++ drop (length xs) old

-- what bytes begin with: a number and how many bytes it has, too few bytes, or bytes that begin no number
abbrev pub First : Type 0
First = Result Leading Unread

abbrev pub leads : ℕ → ℕ → First
leads n k = Ok (record { value = n; len = k })

abbrev pub ended : First
ended = Err Ended

abbrev pub wrong : First
wrong = Err Longer

-- what bytes begin with, group by group
abbrev pub third : List ℕ → First
third s =
    cond (nat_lt (length s) 3) ended
    (cond (slice_index s 2 == 0) wrong
    (cond (nat_lt (slice_index s 2) 128) (leads (slice_index s 0 - 128 + (slice_index s 1 - 128) * 128 + slice_index s 2 * 16384) 3) wrong))

abbrev pub second : List ℕ → First
second s =
    cond (nat_lt (length s) 2) ended
    (cond (nat_lt (slice_index s 1) 128) (cond (slice_index s 1 == 0) wrong (leads (slice_index s 0 - 128 + slice_index s 1 * 128) 2)) (third s))

abbrev pub first : List ℕ → First
first s = cond (nat_lt (length s) 1) ended (cond (nat_lt (slice_index s 0) 128) (leads (slice_index s 0) 1) (second s))

-- the same at a byte of bytes of some length, with the refusal's place
abbrev pub placed : ℕ → ℕ → First → Result Number Fault
placed at len (Ok v) = Ok (record { value = v.value; next = at + v.len })
placed at len (Err Ended) = Err (EndsEarly len)
placed at len (Err Longer) = Err (NotShortest at)

-- the number that stands at a byte, and the byte after it
abbrev pub read_at : List ℕ → ℕ → Result Number Fault
read_at bs at = placed at (length bs) (first (drop at bs))

abbrev pub and_then : {A B : Type 0} → Result A Fault → (A → Result B Fault) → Result B Fault
and_then (Ok a) f = f a
and_then (Err e) f = Err e

-- a number with its limits
abbrev pub within : List ℕ → ℕ → ℕ → ℕ → Result Number Fault
within bs at low high = and_then (read_at bs at) (λ n. cond (nat_le low n.value && nat_le n.value high) (Ok n) (Err (OutsideLimits at)))

-- the edition, which is 1
abbrev pub edition_at : List ℕ → ℕ → Result ℕ Fault
edition_at bs at = and_then (read_at bs at) (λ n. cond (n.value == 1) (Ok n.next) (Err (UnknownEdition at)))

-- it begins logs and records
abbrev pub edition : List ℕ → Result ℕ Fault
edition bs = edition_at bs 0

-- whether bytes are left over from a byte on
abbrev pub left_over : List ℕ → ℕ → Result (Unit {0}) Fault
left_over bs at = cond (nat_lt at (length bs)) (Err (BytesLeftOver at)) (Ok tt)

-- a list of bytes
abbrev pub Bytes : List ℕ → Type 0
Bytes bs = (i : ℕ) → slice_index bs i < 256

-- the bytes of the number n stand from `at` to `next`
pub record Stands (bs : List ℕ) (at n next : ℕ) : Type 0 where
  pub small : n < limit
  pub bytes : drop at bs ≡ encode n ++ drop next bs
  pub length_is : next ≡ at + length (encode n)

-- the bytes from `at` on, and more after them, would begin with a number
pub record Mended (bs : List ℕ) (at : ℕ) : Type 0 where
  pub number : ℕ
  pub more : List ℕ
  pub rest : List ℕ
  pub small : number < limit
  pub bytes : drop at bs ++ more ≡ encode number ++ rest

-- no number stands at `at`, and why: more bytes could mend it, or none could
abbrev pub Refuses : List ℕ → ℕ → Fault → Type 0
Refuses bs at f =
    ((n next : ℕ) → Stands bs at n next → ⊥)
    × (f ≡ EndsEarly (length bs) → Mended bs at) × (f ≡ NotShortest at → Mended bs at → ⊥)

-- a number was written over the start of a buffer, and reads back
pub record Wrote (n : ℕ) (old new : List ℕ) (len : ℕ) : Type 0 where
  pub length_is : len ≡ length (encode n)
  pub bytes : new ≡ over (encode n) old
  pub back : read_at new 0 ≡ Ok (record { value = n; next = len })

-- a number was not written: there was no room, and the buffer is as it was
pub record NoRoom (n : ℕ) (old new : List ℕ) (f : Fault) : Type 0 where
  pub fault : f ≡ BufferTooShort
  pub short : length old < length (encode n)
  pub same : new ≡ old
