-- Names that are known: what a lookup in each list says of what is read so far; the arity of a relation.
use Rattle.std.proofs.Common.{◌≡◌, ℕ, ◌<◌, Bool, true, false, ◌||◌, List, map, length, get_or, is_some, sym, refl, ap, ◌∙◌, arith}
use Rattle.std.proofs.lemmas.List.{length-map, get_or-map}
use Rattle.names.specs.Lookups.{index_of}
use Rattle.relations.specs.declared.declarations.Declarations.{Declarations}
use Rattle.relations.specs.declared.signature.Signature.{Signature}
use Rattle.problem.specs.declared.draft.Draft.{Draft}
use Rattle.relations.specs.declared.relation.Relation.{Relation}
use Rattle.relations.specs.Relations.{declared_of, arity_number}
use Rattle.relations.specs.Declarations.{declared_arity}
use Rattle.formulas.specs.Bodies.{Body}
use Rattle.formulas.specs.Outcomes.{names_of, known}
use Rattle.formulas.proofs.Steps.{both}

-- what the declarations say, by way of the signature
pub through : {Y : Type 0} (f : Declarations → Y) (d : Draft) (s : Signature) (e : Declarations) (y : Y) → y ≡ f e → e ≡ s.declared → s ≡ d.signature → y ≡ f d.signature.declared
through f d s e y p q r = p ∙ ap f (q ∙ ap (λ (t : Signature). t.declared) r)

-- known, from what is declared and what is in scope
pub known_from : (x : List ℕ) (b : Body) (d r : Bool) → d ≡ (is_some (index_of x b.atoms) || is_some (index_of x (names_of b))) → r ≡ is_some (index_of x b.scope) → (d || r) ≡ known x b
known_from x b d r e f = both (λ (s t : Bool). s || t) e f ∙ regroup (is_some (index_of x b.atoms)) (is_some (index_of x (names_of b))) (is_some (index_of x b.scope))
  where
    regroup : (p q r : Bool) → ((p || q) || r) ≡ (p || (q || r))
    regroup true q r = refl
    regroup false q r = refl

-- the arity that stands at a relation's number
pub arity_at : (xs : List Relation) (i a : ℕ) (r : Relation) → i < length xs → r ≡ get_or xs i r → a ≡ arity_number r.arity → a ≡ get_or (map declared_arity (map declared_of xs)) i 0
arity_at xs i a r h e g =
    let l : i < length (map declared_of xs) = omega (arith, h, length-map xs declared_of) in
    g ∙ ap (λ (q : Relation). arity_number q.arity) e
    ∙ sym (ap declared_arity (get_or-map declared_of xs i r (declared_of r) h))
    ∙ sym (get_or-map declared_arity (map declared_of xs) i (declared_of r) 0 l)
