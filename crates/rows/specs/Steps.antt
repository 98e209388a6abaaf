-- What the calls of a step give. Assumes nothing.
use Rattle.std.specs.Prelude.{◌≡◌, ℕ}
use Rattle.lasso.specs.declared.value.Value.{Value}

-- at each instant and from each value, what f gives
abbrev pub StepsBy : (ℕ → Value → Value → Type 0) → (ℕ → Value → Value) → Type 0
StepsBy P f = (i : ℕ) (v r : Value) → P i v r → r ≡ f i v
