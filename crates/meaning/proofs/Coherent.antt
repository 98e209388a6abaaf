-- What reaches yes reaches open, and so a formula has at most one value.
use Rattle.std.proofs.Common.{◌≡◌, ℕ, List, refl}
use Rattle.lasso.specs.declared.value.Value.{Value}
use Rattle.lasso.specs.declared.value.Value.TheVariants.{No, Open, Yes}
use Rattle.meaning.specs.Levels.{Level, at_open, at_yes, AtLeast, IsValue}
use Rattle.meaning.specs.Formulas.{Expr, Formula}
use Rattle.meaning.specs.Meaning.{Path, Has, Reaches}
use Rattle.meaning.proofs.Sent.{Sent, has_sent, reaches_sent}

pub yes_open : (v : Value) → AtLeast at_yes v → AtLeast at_open v
yes_open No x = x
yes_open Open x = tt
yes_open Yes x = tt

place : (π : Path) (i p : ℕ) → Sent at_open (λ u. AtLeast u (π i p)) (λ u. AtLeast u (π i p))
place π i p = record { forth = yes_open (π i p); back = yes_open (π i p) }

pub has_coheres : (n : ℕ) (π : Path) (a : Expr) (e : List ℕ) (i r : ℕ) → Has n π a e i at_yes r → Has n π a e i at_open r
has_coheres n π a e i r = (has_sent at_open n π π (place π) a e i r).forth

pub coheres : (n : ℕ) (π : Path) (f : Formula) (e : List ℕ) (i : ℕ) → Reaches n π f e at_yes i → Reaches n π f e at_open i
coheres n π f e i = (reaches_sent at_open n π π (place π) f e i).forth

pub one_value : (P : Level → Type 0) → (P at_yes → P at_open) → (v w : Value) → IsValue P v → IsValue P w → v ≡ w
one_value P c No No x y = refl
one_value P c No Open x y = absurd (x y.0)
one_value P c No Yes x y = absurd (x (c y))
one_value P c Open No x y = absurd (y x.0)
one_value P c Open Open x y = refl
one_value P c Open Yes x y = absurd (x.1 y)
one_value P c Yes No x y = absurd (y (c x))
one_value P c Yes Open x y = absurd (y.1 x)
one_value P c Yes Yes x y = refl
