-- Operators on sets of tuples of n atoms, by tuple numbers: (a) is a, (a b) is a * n + b, and so on. Assumes nothing.
use Rattle.std.specs.Prelude.{◌≡◌, ℕ, zero, suc, ◌+◌, ◌-◌, ◌*◌, ◌/◌, ◌%◌, ◌<◌, ◌⊎◌}
use Rattle.problem.specs.declared.node.Constant.{Constant}
use Rattle.problem.specs.declared.node.Constant.TheVariants as constant
use Rattle.problem.specs.declared.node.Turn.{Turn}
use Rattle.problem.specs.declared.node.Turn.TheVariants as turn
use Rattle.problem.specs.declared.node.Operator.{Operator}
use Rattle.problem.specs.declared.node.Operator.TheVariants as operator
use Rattle.meaning.specs.Levels.{Level, opposite, Graded}

-- how many tuples of k atoms there are
abbrev pub tuples : ℕ → ℕ → ℕ
tuples n zero = 1
tuples n (suc k) = n * tuples n k

-- the greater, the smaller, and the smaller of one and not the other
abbrev pub Union : Graded → Graded → Graded
Union P Q t r = P t r ⊎ Q t r

abbrev pub Intersection : Graded → Graded → Graded
Intersection P Q t r = P t r × Q t r

abbrev pub Difference : Graded → Graded → Graded
Difference P Q t r = P t r × (Q (opposite t) r → ⊥)

-- tuples side by side; the second has m tuples in all
abbrev pub Product : ℕ → Graded → Graded → Graded
Product m P Q t r = P t (r / m) × Q t (r % m)

-- over a shared atom, the last of the first and the first of the second, whose rest has m tuples in all
abbrev pub Join : ℕ → ℕ → Graded → Graded → Graded
Join n m P Q t r = (a : ℕ) × (a < n) × P t (r / m * n + a) × Q t (a * m + r % m)

-- pairs turned round
abbrev pub Transpose : ℕ → Graded → Graded
Transpose n P t r = P t (r % n * n + r / n)

-- a chain of one or more pairs from a to b
pub data Chain (n : ℕ) (R : ℕ → ℕ → Type 0) : ℕ → ℕ → Type 0 where
  one : {a b : ℕ} → R a b → Chain n R a b
  more : {a c b : ℕ} → c < n → R a c → Chain n R c b → Chain n R a b

abbrev pub Closure : ℕ → Graded → Graded
Closure n P t r = Chain n (λ a b. P t (a * n + b)) (r / n) (r % n)

abbrev pub ConstantHas : ℕ → Constant → ℕ → Type 0
ConstantHas n constant.Univ r = Unit {0}
ConstantHas n constant.None r = ⊥
ConstantHas n constant.Iden r = r / n ≡ r % n

abbrev pub TurnedBy : Turn → ℕ → Graded → Graded
TurnedBy turn.Transpose n P t r = Transpose n P t r
TurnedBy turn.Closure n P t r = Closure n P t r

-- two expressions combined by a sign; the second has arity k
abbrev pub CombinedBy : Operator → ℕ → ℕ → Graded → Graded → Graded
CombinedBy operator.Union n k P Q t r = Union P Q t r
CombinedBy operator.Difference n k P Q t r = Difference P Q t r
CombinedBy operator.Intersection n k P Q t r = Intersection P Q t r
CombinedBy operator.Product n k P Q t r = Product (tuples n k) P Q t r
CombinedBy operator.Join n k P Q t r = Join n (tuples n (k - 1)) P Q t r

-- some of c tuples; none; each of one in the other; the same
abbrev pub Some : ℕ → Graded → Level → Type 0
Some c P t = (r : ℕ) × (r < c) × P t r

abbrev pub None : ℕ → Graded → Level → Type 0
None c P t = Some c P (opposite t) → ⊥

abbrev pub Within : ℕ → Graded → Graded → Level → Type 0
Within c P Q t = (r : ℕ) → r < c → (P (opposite t) r → ⊥) ⊎ Q t r

abbrev pub Same : ℕ → Graded → Graded → Level → Type 0
Same c P Q t = Within c P Q t × Within c Q P t
