-- A list of relations, by their names and by their declarations.
use Rattle.std.proofs.Common.{◌≡◌, List, [], ◌∷◌, map, refl, ap}
use Rattle.relations.specs.declared.relation.Relation.{Relation}
use Rattle.relations.specs.Relations.{relation_name, declared_of}
use Rattle.relations.specs.Declarations.{declared_name}

pub names_of : (rs : List Relation) → map relation_name rs ≡ map declared_name (map declared_of rs)
names_of [] = refl
names_of (r ∷ rs) = ap (λ ns. relation_name r ∷ ns) (names_of rs)
