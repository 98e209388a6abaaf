-- What is unpacked four at a time is what was packed.
use Rattle.std.proofs.Common.{◌≡◌, ℕ, zero, suc, ◌+◌, ◌*◌, ◌/◌, ◌%◌, ◌^◌, ◌<◌, ◌≤◌, List, length, replicate, set, get_or, min, refl, sym, ap, ap₂, ◌∙◌, subst, ⊎_elim, arith, get_or-set_other, get_or-set_same, length-set}
use Rattle.std.proofs.Math.Nat.{zero-div, mul-le-mul}
use Rattle.std.proofs.lemmas.Bool.{cases_lt}
use Rattle.std.proofs.lemmas.List.{get_or_past}
use Rattle.lasso.specs.declared.value.Value.{Value}
use Rattle.lasso.specs.declared.value.Value.TheVariants.{No}
use Rattle.meaning.specs.Tuples.{tuples}
use Rattle.meaning.specs.Tables.{Table, table_at}
use Rattle.tuples.specs.declared.packed.Packed.{Packed}
use Rattle.tuples.specs.declared.tuples.Tuples.{Tuples}
use Rattle.tuples.specs.Tabled.{Tabled}
use Rattle.tuples.specs.Packing.{value_of, value_in, packed_table}

-- the first values of a list of 512 are those of a table, and the others no
abbrev pub Unpacked : ℕ → List Value → Table → Type 0
Unpacked n vs f = (length vs ≡ 512) × ((r : ℕ) → r < n → table_at vs r ≡ f r) × ((r : ℕ) → n ≤ r → table_at vs r ≡ No)

no_at : (n r : ℕ) → table_at (replicate n No) r ≡ No
no_at zero r = refl
no_at (suc n) zero = refl
no_at (suc n) (suc r) = no_at n r

pub none_yet : (f : Table) → Unpacked 0 (replicate 512 No) f
none_yet f = (refl, (λ r l. absurd (omega (arith, l))), λ r l. no_at 512 r)

-- one value more
one_more : (vs : List Value) (f : Table) (n m : ℕ) (v : Value) → n < 512 → m ≡ n + 1 → v ≡ f n → Unpacked n vs f → Unpacked m (set vs n v) f
one_more vs f n m v l k e (len, first, rest) = (
  length-set vs n v ∙ len,
  (λ r h. ⊎_elim
      (λ lt. get_or-set_other vs n r v No (omega (arith, lt)) ∙ first r lt)
      (λ ge. let q : n ≡ r = omega (arith, ge, h, k) in subst (λ (i : ℕ). table_at (set vs n v) i ≡ f i) q (get_or-set_same vs n v No (omega (arith, len, l)) ∙ e))
      (cases_lt r n)),
  λ r h. get_or-set_other vs n r v No (omega (arith, h, k)) ∙ rest r (omega (arith, h, k)),
)

-- the value of a byte, by its tuple's number
value_at :
    {n : ℕ} (p : Packed n) (byte four place r : ℕ) → place < 4 → r ≡ 4 * byte + place → four ≡ get_or p.fours byte 0 → value_in four place ≡ packed_table p r
unfolding packed_table
value_at p byte four place r l q e =
    let b : r / 4 ≡ byte = omega (arith, l, q) in
    let k : r % 4 ≡ place = omega (arith, l, q) in
    ap₂ value_in (e ∙ ap (λ (i : ℕ). get_or p.fours i 0) (sym b)) (sym k)

-- four values more
pub four_more :
    {n : ℕ} (p : Packed n) (vs : List Value) (byte four : ℕ) → byte < 128 → four ≡ get_or p.fours byte 0 → Unpacked (4 * byte) vs (packed_table p) →
    Unpacked (4 * (byte + 1)) (set (set (set (set vs (4 * byte) (value_in four 0)) (4 * byte + 1) (value_in four 1)) (4 * byte + 2) (value_in four 2)) (4 * byte + 3) (value_in four 3)) (packed_table p)
four_more p vs byte four l e h =
    let f = packed_table p in
    let a = one_more vs f (4 * byte) (4 * byte + 1) (value_in four 0) (omega (arith, l)) (omega arith) (value_at p byte four 0 (4 * byte) (omega arith) (omega arith) e) h in
    let b = one_more _ f (4 * byte + 1) (4 * byte + 2) (value_in four 1) (omega (arith, l)) (omega arith) (value_at p byte four 1 (4 * byte + 1) (omega arith) (omega arith) e) a in
    let c = one_more _ f (4 * byte + 2) (4 * byte + 3) (value_in four 2) (omega (arith, l)) (omega arith) (value_at p byte four 2 (4 * byte + 2) (omega arith) (omega arith) e) b in
    one_more _ f (4 * byte + 3) (4 * (byte + 1)) (value_in four 3) (omega (arith, l)) (omega arith) (value_at p byte four 3 (4 * byte + 3) (omega arith) (omega arith) e) c

nothing : (place : ℕ) → value_in 0 place ≡ No
nothing place = let z : 0 / 2 ^ (2 * place) % 4 ≡ 0 = ap (λ n. n % 4) (zero-div (2 ^ (2 * place))) in ap value_of z

-- beyond the last byte stands no
beyond : {n : ℕ} (p : Packed n) (r : ℕ) → length p.fours ≤ r / 4 → packed_table p r ≡ No
unfolding packed_table
beyond p r h = rw (get_or_past p.fours (r / 4) 0 h) (nothing (r % 4))

pub all_unpacked :
    {n : ℕ} (p : Packed n) (vs : List Value) (m : ℕ) → length p.fours ≡ n → min n 128 ≤ m → Unpacked (4 * m) vs (packed_table p) →
    (r : ℕ) → r < 512 → table_at vs r ≡ packed_table p r
all_unpacked p vs m long l (len, first, rest) r few =
    ⊎_elim (λ lt. first r lt) (λ ge. rest r ge ∙ sym (beyond p r (omega (arith, long, l, ge, few)))) (cases_lt r (4 * m))

-- there are at most 512 tuples
few_tuples : (n k : ℕ) → n ≤ 8 → k ≤ 3 → tuples n k ≤ 512
few_tuples n zero h l = omega arith
few_tuples n (suc zero) h l = let one : 1 ≤ 1 = omega arith in let a : n * 1 ≤ 8 * 1 = mul-le-mul h one in omega (arith, a)
few_tuples n (suc (suc zero)) h l = let one : 1 ≤ 1 = omega arith in let a : n * 1 ≤ 8 * 1 = mul-le-mul h one in let b : n * (n * 1) ≤ 8 * (8 * 1) = mul-le-mul h a in omega (arith, b)
few_tuples n (suc (suc (suc zero))) h l =
    let one : 1 ≤ 1 = omega arith in let a : n * 1 ≤ 8 * 1 = mul-le-mul h one in
    let b : n * (n * 1) ≤ 8 * (8 * 1) = mul-le-mul h a in
    let c : n * (n * (n * 1)) ≤ 8 * (8 * (8 * 1)) = mul-le-mul h b in
    omega (arith, c)
few_tuples n (suc (suc (suc (suc k)))) h l = absurd (omega (arith, l))

-- a set of all values that were unpacked
pub tabled :
    {m : ℕ} (p : Packed m) (n k : ℕ) (t : Tuples) (vs : List Value) → n ≤ 8 → k ≤ 3 → t.arity ≡ k → t.values ≡ vs → ((r : ℕ) → r < 512 → table_at vs r ≡ packed_table p r) →
    Tabled n k (packed_table p) t
tabled p n k t vs h l a e all =
    (a, λ r q. let f = few_tuples n k h l in ap (λ (xs : List Value). table_at xs r) e ∙ all r (omega (arith, f, q)))
