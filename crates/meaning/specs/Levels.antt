-- How much a value reaches: the two thresholds above no, and what is said of sets of tuples and of instants by them. Assumes nothing.
use Rattle.std.specs.Prelude.{ℕ}
use Rattle.lasso.specs.declared.value.Value.{Value}
use Rattle.lasso.specs.declared.value.Value.TheVariants.{No, Open, Yes}

-- a threshold: at least open, at least yes
pub data Level : Type 0 where
  at_open : Level
  at_yes : Level

-- "not" exchanges no and yes: it reaches a threshold where its part does not reach the opposite one
abbrev pub opposite : Level → Level
opposite at_open = at_yes
opposite at_yes = at_open

-- a value is at least that of the threshold
abbrev pub AtLeast : Level → Value → Type 0
AtLeast at_open No = ⊥
AtLeast at_open Open = Unit {0}
AtLeast at_open Yes = Unit {0}
AtLeast at_yes No = ⊥
AtLeast at_yes Open = ⊥
AtLeast at_yes Yes = Unit {0}

-- what reaches each threshold: at each tuple of an expression, or at each instant of a formula
abbrev pub Graded : Type 1
Graded = Level → ℕ → Type 0

-- v is the value of what reaches these thresholds: yes if it reaches yes, no if it does not reach open, else open
abbrev pub IsValue : (Level → Type 0) → Value → Type 0
IsValue P No = P at_open → ⊥
IsValue P Open = P at_open × (P at_yes → ⊥)
IsValue P Yes = P at_yes
