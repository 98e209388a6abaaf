-- One round more of the closure.
use Rattle.std.proofs.Common.{◌≡◌, ℕ, ◌+◌, ◌*◌, ◌/◌, ◌%◌, ◌<◌, List, refl, add-one, arith}
use Rattle.std.proofs.lemmas.Nat.{div_below, mod_below, mul-add-lt}
use Rattle.lasso.specs.declared.value.Value.{Value}
use Rattle.meaning.specs.Tuples.{tuples}
use Rattle.meaning.specs.Tables.{Table, table_at, TableIs, round_table, chains_below}

-- pairs of the first atom and k, and of k and the last
left_lt : (n r k : ℕ) → r < n * n → k < n → r / n * n + k < n * n
left_lt n r k l h = mul-add-lt (r / n) n k n (div_below r n n (omega arith) l) h

right_lt : (n r k : ℕ) → k < n → k * n + r % n < n * n
right_lt n r k h = mul-add-lt k n (r % n) n h (mod_below r n (omega arith))

squared : (n : ℕ) → tuples n 2 ≡ n * n
squared n = omega arith

pub no_round : (n : ℕ) (xs : List Value) → TableIs (tuples n 2) xs (chains_below n 0 (table_at xs))
unfolding chains_below
no_round n xs r h = refl

pub round_more : (n k : ℕ) (f : Table) (xs ys : List Value) → k < n → TableIs (tuples n 2) xs (chains_below n k f) → TableIs (tuples n 2) ys (round_table n k (table_at xs)) → TableIs (tuples n 2) ys (chains_below n (k + 1) f)
unfolding chains_below
round_more n k f xs ys h old new =
    rw add-one
    (λ r l.
    let s = squared n in
    let below : r < n * n = omega arith in
    let a = left_lt n r k below h in
    let b = right_lt n r k h in
    let e = old r l in
    let p = old (r / n * n + k) (omega arith) in
    let q = old (k * n + r % n) (omega arith) in
    let g = new r l in
    cc)
