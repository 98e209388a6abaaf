-- How many places are free, and which declarations and horizon go together. Assumes nothing.
use Rattle.std.specs.Prelude.{ℕ, ◌*◌, cond, ◌&&◌, List, map, length, sum_by, Some, None, Option, nat_le, nat_lt}
use Rattle.relations.specs.declared.relation.Mutability.{Mutability}
use Rattle.relations.specs.declared.relation.Mutability.TheVariants.{Fixed, Mutable}
use Rattle.relations.specs.declared.relation.Arity.{Arity}
use Rattle.relations.specs.declared.relation.Arity.TheVariants.{One, Two}
use Rattle.relations.specs.declared.free.Unfit.{Unfit}
use Rattle.relations.specs.declared.free.Unfit.TheVariants.{Limit, FreePlaces}
use Rattle.relations.specs.Relations.{Declared, free_in}

abbrev pub most_horizon : ℕ
most_horizon = 8

abbrev pub most_free : ℕ
most_free = 256

-- how many tuples there are of so many atoms
abbrev pub size_of : ℕ → Arity → ℕ
size_of n One = n
size_of n Two = n * n

abbrev pub declared_size : ℕ → Declared → ℕ
declared_size n r = size_of n r.arity

-- how many tuples each relation may have
abbrev pub sizes : ℕ → List Declared → List ℕ
sizes n rs = map (declared_size n) rs

-- how many states a free place counts for
abbrev pub times_of : ℕ → Mutability → ℕ
times_of h Fixed = 1
times_of h Mutable = h

-- how much a relation counts
abbrev pub free_of : ℕ → ℕ → Declared → ℕ
free_of n h r = times_of h r.mutability * free_in (size_of n r.arity) r.bounds

-- the free fixed places, and the free mutable ones for each state of the horizon
abbrev pub free_places : ℕ → List Declared → ℕ → ℕ
free_places n rs h = sum_by (free_of n h) rs

-- why declarations and a horizon do not go together, if so
abbrev pub fitness : List (List ℕ) → List Declared → ℕ → Option Unfit
fitness atoms rs h =
    cond (nat_lt 0 (length atoms) && (nat_lt 0 h && nat_le h most_horizon)) (cond (nat_le (free_places (length atoms) rs h) most_free) None (Some FreePlaces)) (Some Limit)
