-- How many tuples there are, and places in tables of pairs.
use Rattle.std.proofs.Common.{◌≡◌, ℕ, zero, suc, ◌+◌, ◌-◌, ◌*◌, ◌/◌, ◌%◌, ◌<◌, sym, ap, ◌∙◌, mul_assoc, mul_comm, arith}
use Rattle.std.proofs.lemmas.Nat.{div_below, mod_below, mul-add-lt}
use Rattle.meaning.specs.Tuples.{tuples}

pub tuples_add : (n j k : ℕ) → tuples n j * tuples n k ≡ tuples n (j + k)
tuples_add n zero k = let e : zero + k ≡ k = omega arith in let o : 1 * tuples n k ≡ tuples n k = omega arith in o ∙ ap (tuples n) (sym e)
tuples_add n (suc j) k =
    let e : suc j + k ≡ suc (j + k) = omega arith in
    mul_assoc n (tuples n j) (tuples n k) ∙ ap (λ (x : ℕ). n * x) (tuples_add n j k) ∙ ap (tuples n) (sym e)

pub tuples_more : (n k : ℕ) → 0 < k → n * tuples n (k - 1) ≡ tuples n k
tuples_more n zero h = absurd (omega arith)
tuples_more n (suc k) h = let e : suc k - 1 ≡ k = omega arith in ap (λ (x : ℕ). n * tuples n x) e

pub tuples_one : (n : ℕ) → tuples n 1 ≡ n
tuples_one n = omega arith

pub tuples_two : (n : ℕ) → tuples n 2 ≡ n * n
tuples_two n = ap (λ (x : ℕ). n * x) (tuples_one n)

-- a table with an entry has entries
pub some_right : (h m r : ℕ) → r < h * m → 0 < m
some_right h zero r k = absurd (omega arith)
some_right h (suc m) r k = omega arith

pub left_lt : (n m h r a : ℕ) → r < h * m → a < n → r / m * n + a < n * h
left_lt n m h r a l k = mul-add-lt (r / m) n a h (div_below r m h (some_right h m r l) l) k

pub right_lt : (n m h r a : ℕ) → r < h * m → a < n → a * m + r % m < n * m
right_lt n m h r a l k = let x = mul-add-lt a m (r % m) n k (mod_below r m (some_right h m r l)) in omega (arith, mul_comm n m)
