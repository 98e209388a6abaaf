-- What stands at an index of the list of sizes.
use Rattle.std.proofs.Common.{◌≡◌, ℕ, zero, suc, ◌<◌, ◌≤◌, List, [], ◌∷◌, map, length, get_or, refl, sym, ap, ◌∙◌, arith}
use Rattle.relations.specs.declared.relation.Relation.{Relation}
use Rattle.relations.specs.Relations.{declared_of}
use Rattle.relations.specs.Free.{size_of, sizes}

pub size_is : (n : ℕ) (rs : List Relation) (i : ℕ) (d : Relation) → i < length rs → get_or (sizes n (map declared_of rs)) i 0 ≡ size_of n (get_or rs i d).arity
size_is n [] i d h = absurd (omega arith)
size_is n (r ∷ rs) zero d h = refl
size_is n (r ∷ rs) (suc i) d h = size_is n rs i d (omega arith)

pub no_size : (n : ℕ) (rs : List Relation) (i : ℕ) → length rs ≤ i → get_or (sizes n (map declared_of rs)) i 0 ≡ 0
no_size n [] i h = refl
no_size n (r ∷ rs) zero h = absurd (omega arith)
no_size n (r ∷ rs) (suc i) h = no_size n rs i (omega arith)

pub size_got : (n : ℕ) (rs : List Relation) (i : ℕ) (r : Relation) → i < length rs → r ≡ get_or rs i r → get_or (sizes n (map declared_of rs)) i 0 ≡ size_of n r.arity
size_got n rs i r h e = size_is n rs i r h ∙ ap (λ (x : Relation). size_of n x.arity) (sym e)
