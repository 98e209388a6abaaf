-- Laws of meaning, each over all problems, paths and instants. Assumes nothing.
use Rattle.std.specs.Prelude.{◌≡◌, ℕ, ◌+◌, ◌-◌, ◌*◌, ◌<◌, ◌≤◌, ◌↔◌, List, []}
use Rattle.lasso.specs.declared.value.Value.{Value}
use Rattle.lasso.specs.declared.value.Value.TheVariants.{No, Open, Yes}
use Rattle.lasso.specs.Lassos.{path}
use Rattle.problem.specs.declared.node.Turn.TheVariants as turn
use Rattle.problem.specs.declared.node.Operator.TheVariants as operator
use Rattle.meaning.specs.Levels.{Level, at_open, at_yes}
use Rattle.meaning.specs.Tuples.{Chain}
use Rattle.meaning.specs.Formulas.{Expr, turned, combined, arity, Formula, depth}
use Rattle.meaning.specs.Meaning.{Path, Has, Reaches, ValueIs}

-- a formula has at most one value on a path
abbrev pub AtMostOneValue : Type 0
AtMostOneValue = (n : ℕ) (π : Path) (f : Formula) (e : List ℕ) (i : ℕ) (v w : Value) → ValueIs n π f e i v → ValueIs n π f e i w → v ≡ w

-- and it has one on the path of every lasso
abbrev pub ValueOnLasso : Type 0
ValueOnLasso = (n k l : ℕ) (at : ℕ → ℕ → Value) → l < k → (f : Formula) (e : List ℕ) (i : ℕ) → (v : Value) × ValueIs n (path k l at) f e i v

-- ρ says what π says wherever that is not open
abbrev pub FillsIn : Path → Path → Type 0
FillsIn π ρ = (i p : ℕ) → (π i p ≡ Open → ⊥) → ρ i p ≡ π i p

-- what is yes on a path is yes on every path that fills in its open values, and what is no is no
abbrev pub Refinement : Type 0
Refinement =
    (n : ℕ) (π ρ : Path) → FillsIn π ρ → (f : Formula) (e : List ℕ) (i : ℕ) →
    (Reaches n π f e at_yes i → Reaches n ρ f e at_yes i) × (Reaches n ρ f e at_open i → Reaches n π f e at_open i)

-- so a value other than open is settled: it stays, however the open values are filled in
abbrev pub Settled : Type 0
Settled =
    (n : ℕ) (π ρ : Path) → FillsIn π ρ → (f : Formula) (e : List ℕ) (i : ℕ) →
    (ValueIs n π f e i Yes → ValueIs n ρ f e i Yes) × (ValueIs n π f e i No → ValueIs n ρ f e i No)

-- on a lasso, a formula with past depth d has the same value a period later, from d periods after the loop start on
abbrev pub Rounds : Type 0
Rounds =
    (n k l : ℕ) (at : ℕ → ℕ → Value) → l < k → (f : Formula) (e : List ℕ) (t : Level) (i : ℕ) → l + depth f * (k - l) ≤ i →
    Reaches n (path k l at) f e t i ↔ Reaches n (path k l at) f e t (i + (k - l))

-- from the loop start on it may differ a period later: such a lasso, a formula of the past and an instant
pub record OneRoundIsTooFew : Type 0 where
  pub atoms : ℕ
  pub states : ℕ
  pub start : ℕ
  pub values : ℕ → ℕ → Value
  pub loops : start < states
  pub formula : Formula
  pub past : depth formula ≡ 1
  pub level : Level
  pub instant : ℕ
  pub late : start ≤ instant
  pub differs : (Reaches atoms (path states start values) formula [] level instant ↔ Reaches atoms (path states start values) formula [] level (instant + (states - start))) → ⊥

-- the operators at named atoms
abbrev pub JoinAtAtoms : Type 0
JoinAtAtoms =
    (n : ℕ) (π : Path) (x r : Expr) (e : List ℕ) (i : ℕ) (t : Level) → arity x ≡ 1 → arity r ≡ 2 → (b : ℕ) → b < n →
    Has n π (combined operator.Join x r) e i t b ↔ ((a : ℕ) × (a < n) × Has n π x e i t a × Has n π r e i t (a * n + b))

abbrev pub ProductAtAtoms : Type 0
ProductAtAtoms =
    (n : ℕ) (π : Path) (x y : Expr) (e : List ℕ) (i : ℕ) (t : Level) → arity x ≡ 1 → arity y ≡ 1 → (a b : ℕ) → a < n → b < n →
    Has n π (combined operator.Product x y) e i t (a * n + b) ↔ (Has n π x e i t a × Has n π y e i t b)

abbrev pub TransposeAtAtoms : Type 0
TransposeAtAtoms =
    (n : ℕ) (π : Path) (r : Expr) (e : List ℕ) (i : ℕ) (t : Level) (a b : ℕ) → a < n → b < n →
    Has n π (turned turn.Transpose r) e i t (a * n + b) ↔ Has n π r e i t (b * n + a)

abbrev pub ClosureAtAtoms : Type 0
ClosureAtAtoms =
    (n : ℕ) (π : Path) (r : Expr) (e : List ℕ) (i : ℕ) (t : Level) (a b : ℕ) → a < n → b < n →
    Has n π (turned turn.Closure r) e i t (a * n + b) ↔ Chain n (λ c d. Has n π r e i t (c * n + d)) a b
