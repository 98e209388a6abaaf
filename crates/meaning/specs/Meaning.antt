-- What an expression and a formula mean on an endless path of three values, over n atoms. Assumes nothing.
use Rattle.std.specs.Prelude.{◌≡◌, ℕ, ◌+◌, ◌<◌, ◌⊎◌, List, slice_index, slice_set}
use Rattle.lasso.specs.declared.value.Value.{Value}
use Rattle.problem.specs.declared.node.Test.{Test}
use Rattle.problem.specs.declared.node.Test.TheVariants as test
use Rattle.problem.specs.declared.node.Comparison.{Comparison}
use Rattle.problem.specs.declared.node.Comparison.TheVariants as comparison
use Rattle.problem.specs.declared.node.Quantifier.{Quantifier}
use Rattle.problem.specs.declared.node.Quantifier.TheVariants as quantifier
use Rattle.meaning.specs.Levels.{Level, opposite, AtLeast, Graded, IsValue}
use Rattle.meaning.specs.Tuples.{tuples, ConstantHas, TurnedBy, CombinedBy, Some, None, Within, Same}
use Rattle.meaning.specs.Instants.{PrefixedBy, JoinedBy}
use Rattle.meaning.specs.Formulas.{Expr, relation, variable, constant, turned, next, combined, arity, Formula, tested, compared, prefixed, joined, quantified}

-- the value of each place at each instant
abbrev pub Path : Type 0
Path = ℕ → ℕ → Value

-- the value of an expression at an instant reaches a threshold at a tuple; e has the atom of each bound variable
abbrev pub Has : ℕ → Path → Expr → List ℕ → ℕ → Level → ℕ → Type 0
Has n π (relation b k) e i t r = AtLeast t (π i (b + r))
Has n π (variable x) e i t r = r ≡ slice_index e x
Has n π (constant c) e i t r = ConstantHas n c r
Has n π (turned s a) e i t r = TurnedBy s n (Has n π a e i) t r
Has n π (next a) e i t r = Has n π a e (i + 1) t r
Has n π (combined o a b) e i t r = CombinedBy o n (arity b) (Has n π a e i) (Has n π b e i) t r

abbrev pub TestedBy : Test → ℕ → Graded → Level → Type 0
TestedBy test.Some c P t = Some c P t
TestedBy test.No c P t = None c P t

abbrev pub ComparedBy : Comparison → ℕ → Graded → Graded → Level → Type 0
ComparedBy comparison.In c P Q t = Within c P Q t
ComparedBy comparison.Equal c P Q t = Same c P Q t

-- all or some of n atoms: those of the domain, by what the formula is for each
abbrev pub QuantifiedBy : Quantifier → ℕ → Graded → (ℕ → Level → Type 0) → Level → Type 0
QuantifiedBy quantifier.All n P F t = (a : ℕ) → a < n → (P (opposite t) a → ⊥) ⊎ F a t
QuantifiedBy quantifier.Some n P F t = (a : ℕ) × (a < n) × P t a × F a t

-- the value of a formula at an instant reaches a threshold
abbrev pub Reaches : ℕ → Path → Formula → List ℕ → Level → ℕ → Type 0
Reaches n π (tested q a) e t i = TestedBy q (tuples n (arity a)) (Has n π a e i) t
Reaches n π (compared c a b) e t i = ComparedBy c (tuples n (arity a)) (Has n π a e i) (Has n π b e i) t
Reaches n π (prefixed x f) e t i = PrefixedBy x (Reaches n π f e) t i
Reaches n π (joined w f g) e t i = JoinedBy w (Reaches n π f e) (Reaches n π g e) t i
Reaches n π (quantified q x a f) e t i = QuantifiedBy q n (Has n π a e i) (λ a u. Reaches n π f (slice_set e x a) u i) t

-- the value of a formula at an instant
abbrev pub ValueIs : ℕ → Path → Formula → List ℕ → ℕ → Value → Type 0
ValueIs n π f e i v = IsValue (λ t. Reaches n π f e t i) v
