-- What values and tables show: they reach just the thresholds that something reaches. Assumes nothing.
use Rattle.std.specs.Prelude.{◌≡◌, ℕ, ◌<◌, ◌↔◌}
use Rattle.lasso.specs.declared.value.Value.{Value}
use Rattle.problem.specs.declared.node.Operator.{Operator}
use Rattle.problem.specs.declared.node.Operator.TheVariants as operator
use Rattle.meaning.specs.Levels.{Level, AtLeast, Graded}
use Rattle.meaning.specs.Tables.{Table}

pub record ShownAt (A : Level → Type 0) (v : Value) : Type 0 where
  pub each : (t : Level) → AtLeast t v ↔ A t

-- the values of f below c
abbrev pub Shown : Graded → Table → ℕ → Type 0
Shown P f c = (r : ℕ) → r < c → ShownAt (λ t. P t r) (f r)

-- what a table itself reaches
abbrev pub Of : Table → Graded
Of f t r = AtLeast t (f r)

-- two arities fit a sign
abbrev pub Suited : Operator → ℕ → ℕ → Type 0
Suited operator.Union a b = a ≡ b
Suited operator.Difference a b = a ≡ b
Suited operator.Intersection a b = a ≡ b
Suited operator.Product a b = Unit {0}
Suited operator.Join a b = (0 < a) × (0 < b)
