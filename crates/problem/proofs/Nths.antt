-- What stands at an index of the list of arities.
use Rattle.std.proofs.Common.{◌≡◌, ℕ, zero, suc, ◌<◌, ◌≤◌, List, [], ◌∷◌, map, length, get_or, Some, None, refl, sym, ap, ◌∙◌, arith}
use Rattle.std.specs.List.{slice_get}
use Rattle.relations.specs.declared.relation.Relation.{Relation}
use Rattle.relations.specs.Relations.{declared_of, arity_number}
use Rattle.relations.specs.Declarations.{arities}

pub nth_arities : (rs : List Relation) (i : ℕ) (d : Relation) → i < length rs → slice_get (arities (map declared_of rs)) i ≡ Some (arity_number (get_or rs i d).arity)
nth_arities [] i d h = absurd (omega arith)
nth_arities (r ∷ rs) zero d h = refl
nth_arities (r ∷ rs) (suc i) d h = nth_arities rs i d (omega arith)

pub no_arity : (rs : List Relation) (i : ℕ) → length rs ≤ i → slice_get (arities (map declared_of rs)) i ≡ None
no_arity [] i h = refl
no_arity (r ∷ rs) zero h = absurd (omega arith)
no_arity (r ∷ rs) (suc i) h = no_arity rs i (omega arith)

-- the same, by the relation that was read there
pub arity_got : (rs : List Relation) (i : ℕ) (r : Relation) → i < length rs → r ≡ get_or rs i r → slice_get (arities (map declared_of rs)) i ≡ Some (arity_number r.arity)
arity_got rs i r h e = nth_arities rs i r h ∙ ap (λ (x : Relation). Some (arity_number x.arity)) (sym e)
