-- The atoms of a tuple, for src/members. Assumes nothing.
use Rattle.std.specs.Prelude.{◌≡◌, ℕ, ◌+◌, ◌*◌, ◌<◌}
use Rattle.relations.specs.declared.relation.Arity.{Arity}
use Rattle.relations.specs.declared.relation.Arity.TheVariants as arity
use Rattle.places.specs.declared.members.Members.{Members}
use Rattle.places.specs.declared.members.Members.TheVariants.{One, Two}

-- how many they are
abbrev pub arity_of : Members → Arity
arity_of (One a) = arity.One
arity_of (Two a b) = arity.Two

-- the number of a tuple, of so many atoms
abbrev pub number_of : ℕ → Members → ℕ
number_of n (One a) = a
number_of n (Two a b) = a * n + b

-- each is one of so many atoms
abbrev pub Among : ℕ → Members → Type 0
Among n (One a) = a < n
Among n (Two a b) = (a < n) × (b < n)

-- two atoms of a number
pub record Pair (n t a b : ℕ) : Type 0 where
  pub number : a * n + b ≡ t
  pub first : a < n
  pub second : b < n

-- the atoms of a tuple of that arity and number
pub record AtomsAre (n : ℕ) (a : Arity) (t : ℕ) (m : Members) : Type 0 where
  pub arity : arity_of m ≡ a
  pub number : number_of n m ≡ t
  pub among : Among n m
