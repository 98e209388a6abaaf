-- The verdict on a problem and what a source means, and what it says of every behaviour that is possible. Assumes nothing.
use Rattle.std.specs.Prelude.{◌≡◌, ◌≢◌, ℕ, ◌<◌, true, length}
use Rattle.lasso.specs.declared.value.Value.{Value}
use Rattle.lasso.specs.declared.value.Value.TheVariants.{No, Open, Yes}
use Rattle.source.specs.Meanings.{Meaning, told_at}
use Rattle.problem.specs.declared.problem.Problem.{Problem}
use Rattle.problem.specs.Problems.{atoms_in, sizes_in}
use Rattle.places.specs.Places.{place_count}
use Rattle.places.specs.Asked.{FixedAt, BoundAt}
use Rattle.meaning.specs.Meaning.{Path, ValueIs}
use Rattle.meaning.specs.Trees.{formula_in, no_variable}
use Rattle.known.specs.Known.{Fits, IsKnown}

-- the value of a problem's formula at the first instant of a path
abbrev pub FormulaIs : Problem → Path → Value → Type 0
FormulaIs p π v = ValueIs (length (atoms_in p)) π (formula_in p) no_variable 0 v

-- a behaviour that is possible: it decides each place at every instant, is within the bounds, never alters a fixed place,
-- and agrees with the source wherever that speaks
pub record Possible (p : Problem) (m : Meaning) (β : Path) : Type 0 where
  pub decided : (i place : ℕ) → place < place_count (sizes_in p) → β i place ≢ Open
  pub within : {b : Value} (i place : ℕ) → BoundAt p place b → b ≢ Open → β i place ≡ b
  pub steady : (i j place : ℕ) → FixedAt p place true → β i place ≡ β j place
  pub agrees : (i place : ℕ) → place < place_count (sizes_in p) → told_at m place i ≢ Open → β i place ≡ told_at m place i

-- yes and no hold of every behaviour that is possible
pub record Settles (p : Problem) (m : Meaning) (v : Value) : Type 0 where
  pub yes : v ≡ Yes → (β : Path) → Possible p m β → FormulaIs p β Yes
  pub no : v ≡ No → (β : Path) → Possible p m β → FormulaIs p β No

-- the source fits, and v is the formula's value on the path of what is known
pub record Verdict (p : Problem) (m : Meaning) (v : Value) : Type 0 where
  pub fits : Fits p m
  pub path : Path
  pub known : IsKnown p m path
  pub value : FormulaIs p path v
  pub settles : Settles p m v

-- what is known settles yes and no
abbrev pub KnownSettles : Type 0
KnownSettles = (p : Problem) (m : Meaning) (π : Path) (v : Value) → IsKnown p m π → FormulaIs p π v → Settles p m v
