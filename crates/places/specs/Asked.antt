-- What is said of the tuple at a place, for src/asked. Assumes nothing.
use Rattle.std.specs.Prelude.{◌≡◌, ℕ, Bool, true, false, List, [], Some, slice_index_or}
use Rattle.lasso.specs.declared.value.Value.{Value}
use Rattle.lasso.specs.declared.value.Value.TheVariants.{No}
use Rattle.relations.specs.declared.relation.Mutability.{Mutability}
use Rattle.relations.specs.declared.relation.Mutability.TheVariants.{Fixed, Mutable}
use Rattle.relations.specs.declared.relation.Arity.TheVariants.{One}
use Rattle.problem.specs.declared.problem.Problem.{Problem}
use Rattle.relations.specs.Relations.{Declared}
use Rattle.problem.specs.Problems.{relations_in, sizes_in}
use Rattle.places.specs.declared.numbers.Tuple.{Tuple}
use Rattle.places.specs.Places.{place_of_tuple}

abbrev pub fixed : Mutability → Bool
fixed Fixed = true
fixed Mutable = false

-- what stands beyond the last relation
abbrev pub no_relation : Declared
no_relation = record { name = []; mutability = Fixed; arity = One; bounds = [] }

abbrev pub relation_at : List Declared → ℕ → Declared
relation_at rs i = slice_index_or rs i no_relation

-- whether the relation of the tuple at a place is fixed
pub record FixedAt (p : Problem) (place : ℕ) (b : Bool) : Type 0 where
  pub at : Tuple
  pub there : place_of_tuple (sizes_in p) at ≡ Some place
  pub value : b ≡ fixed (relation_at (relations_in p) at.relation).mutability

-- what the bounds say of the tuple at a place
pub record BoundAt (p : Problem) (place : ℕ) (v : Value) : Type 0 where
  pub at : Tuple
  pub there : place_of_tuple (sizes_in p) at ≡ Some place
  pub value : v ≡ slice_index_or (relation_at (relations_in p) at.relation).bounds at.tuple No
