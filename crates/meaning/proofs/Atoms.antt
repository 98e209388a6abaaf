-- Operators at named atoms.
use Rattle.std.proofs.Common.{◌≡◌, ℕ, ◌+◌, ◌*◌, ◌/◌, ◌%◌, ◌<◌, ◌↔◌, sym, subst, arith}
use Rattle.std.proofs.lemmas.Nat.{div-mul-add, mod-mul-add}
use Rattle.meaning.specs.Levels.{Level, Graded}
use Rattle.meaning.specs.Tuples.{Chain, Product, Join, Transpose, Closure}

pub moved : (P : ℕ → Type 0) {x y : ℕ} → x ≡ y → P x ↔ P y
moved P e = (λ h. subst P e h, λ h. subst P (sym e) h)

-- the two halves of a tuple number
pub halves : (F : ℕ → ℕ → Type 0) (m u v : ℕ) → v < m → F ((u * m + v) / m) ((u * m + v) % m) ↔ F u v
halves F m u v h =
    let d = moved (λ p. F p ((u * m + v) % m)) (div-mul-add u m v h) in
    let e = moved (F u) (mod-mul-add u m v h) in
    (λ x. e.0 (d.0 x), λ x. d.1 (e.1 x))

-- a tuple of atoms u, and then a tuple of atoms v out of m
pub product_named : (m : ℕ) (P Q : Graded) (t : Level) (u v : ℕ) → v < m → Product m P Q t (u * m + v) ↔ (P t u × Q t v)
product_named m P Q t u v h = halves (λ p q. P t p × Q t q) m u v h

pub join_named : (n m : ℕ) (P Q : Graded) (t : Level) (u v : ℕ) → v < m → Join n m P Q t (u * m + v) ↔ ((a : ℕ) × (a < n) × P t (u * n + a) × Q t (a * m + v))
join_named n m P Q t u v h = halves (λ p q. (a : ℕ) × (a < n) × P t (p * n + a) × Q t (a * m + q)) m u v h

-- with nothing before the shared atom
pub join_alone : (n m : ℕ) (P Q : Graded) (t : Level) (v : ℕ) → v < m → Join n m P Q t v ↔ ((a : ℕ) × (a < n) × P t a × Q t (a * m + v))
join_alone n m P Q t v h =
    let z : (k x : ℕ) → 0 * k + x ≡ x = λ k x. omega arith in
    let whole = moved (Join n m P Q t) (z m v) in
    let j = join_named n m P Q t 0 v h in (
      λ x. let y = j.0 (whole.1 x) in (y.0, y.1, subst (P t) (z n y.0) y.2, y.3),
      λ x. whole.0 (j.1 (x.0, x.1, subst (P t) (sym (z n x.0)) x.2, x.3)),
    )

pub transpose_named : (n : ℕ) (P : Graded) (t : Level) (a b : ℕ) → b < n → Transpose n P t (a * n + b) ↔ P t (b * n + a)
transpose_named n P t a b h = halves (λ p q. P t (q * n + p)) n a b h

pub closure_named : (n : ℕ) (P : Graded) (t : Level) (a b : ℕ) → b < n → Closure n P t (a * n + b) ↔ Chain n (λ c d. P t (c * n + d)) a b
closure_named n P t a b h = halves (Chain n (λ c d. P t (c * n + d))) n a b h
