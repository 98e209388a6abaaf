-- One trace for each behaviour.
use Rattle.std.proofs.Common.{◌≡◌, ℕ, ◌<◌, Bool, true, false, ◌&&◌, nat_eq, [], get_or, refl, sym, ap, ◌∙◌, inl, ⊎_elim, arith, Decides}
use denote.Struct.Record.{values_one}
use lib.Pointwise.{pointwise}
use Rattle.std.specs.Bool.{beq}
use Rattle.std.specs.Cmp.{booleans_Decides}
use Rattle.std.proofs.lemmas.List.{ext_get_or}
use Rattle.std.proofs.lemmas.Slice.Eq.{slice_eq-Decides}
use Rattle.std.proofs.lemmas.Bool.{cases_lt, and_parts, and_from, eqb-true, eq-eqb}
use Rattle.lasso.specs.declared.shape.Shape.{Shape}
use Rattle.lasso.specs.contracts.shape.Shape as shape
use Rattle.lasso.proofs.One.{one_lasso}
use Rattle.trace.specs.declared.trace.Trace.{Trace}
use Rattle.trace.specs.contracts.trace.Trace as trace
use Rattle.trace.specs.Traces.{held_in, behaviour, SameFields, SameBehaviour}

-- shapes and traces are what their fields hold
pub same_shape : (a b : Shape) → a.states ≡ b.states → a.loop_start ≡ b.loop_start → a ≡ b
same_shape a b k l = values_one shape.struct shape.the_propositions a b (λ i. (k i, (l i, tt)))

pub same_fields : (t u : Trace) → t.places ≡ u.places → t.shape ≡ u.shape → t.held ≡ u.held → t ≡ u
same_fields t u n s h = values_one trace.struct (trace.the_propositions (shape.the_row).coded) t u (λ i. (n i, (s i, (h i, tt))))

same_held : (t u : Trace) → ((s p : ℕ) → held_in t s p ≡ held_in u s p) → t.held ≡ u.held
same_held t u same =
    ext_get_or [] t.held u.held (t.tall ∙ sym u.tall) (λ s h.
    let b : s < 8 = omega (arith, t.tall) in
    ext_get_or false (get_or t.held s []) (get_or u.held s []) (t.wide s b ∙ sym (u.wide s b)) (λ p _. same s p))

pub same_trace : (t u : Trace) → SameFields t u → t ≡ u
same_trace t u f = same_fields t u f.places (same_shape t.shape u.shape f.states f.loop_start) (same_held t u f.held)

-- two traces with one behaviour have the same states, and hold the same in each
pub one_trace : (t u : Trace) → SameBehaviour t u → SameFields t u
one_trace t u b =
    let o = one_lasso t.shape.states t.shape.loop_start u.shape.states u.shape.loop_start (held_in t) (held_in u) t.shape.loops u.shape.loops t.fewest u.fewest b.same in
    let k : t.shape.states ≡ u.shape.states = o.0 in
    record {
      places = b.places;
      states = k;
      loop_start = o.1;
      held = λ s p. ⊎_elim (λ lo. o.2 s p lo) (λ hi. t.none_outside s p (inl hi) ∙ sym (u.none_outside s p (inl (omega arith)))) (cases_lt s t.shape.states);
    }

pub same_behaviour : (t u : Trace) → t ≡ u → SameBehaviour t u
same_behaviour t u e = record { places = ap (λ x. x.places) e; same = λ i p. ap (λ x. behaviour x i p) e }

-- the derived equality, which goes by all fields, says whether two traces are one
module _ (t u : Trace) where
  abbrev pub fields_eq : Bool
  fields_eq = nat_eq t.places u.places && ((nat_eq t.shape.states u.shape.states && nat_eq t.shape.loop_start u.shape.loop_start) && pointwise (pointwise beq) t.held u.held)

  held_Decides : Decides (pointwise (pointwise beq) t.held u.held) (t.held ≡ u.held)
  held_Decides = slice_eq-Decides (λ a b. slice_eq-Decides booleans_Decides a b _ refl) t.held u.held _ refl

  one_by_fields : fields_eq ≡ true → t ≡ u
  one_by_fields e =
      let a = and_parts _ _ e in
      let b = and_parts _ _ a.1 in
      let c = and_parts _ _ b.0 in
      same_fields t u (eqb-true t.places u.places a.0) (same_shape t.shape u.shape (eqb-true t.shape.states u.shape.states c.0) (eqb-true t.shape.loop_start u.shape.loop_start c.1)) (held_Decides.0 b.1)

  fields_by_one : t ≡ u → fields_eq ≡ true
  fields_by_one e =
      and_from _ _ (eq-eqb t.places u.places (ap (λ x. x.places) e))
      (and_from _ _
      (and_from _ _ (eq-eqb t.shape.states u.shape.states (ap (λ x. x.shape.states) e)) (eq-eqb t.shape.loop_start u.shape.loop_start (ap (λ x. x.shape.loop_start) e)))
      (held_Decides.1 (ap (λ x. x.held) e)))

  -- `grind` takes a lemma at the first term of its conclusion that shows its variables: the equation that always holds is there for that
  abbrev Said : Type 0 → Type 0
  Said P = (pointwise (pointwise beq) t.held u.held ≡ pointwise (pointwise beq) t.held u.held) × Decides fields_eq P

  pub one_value : Said (t ≡ u)
  one_value = (refl, (one_by_fields, fields_by_one))

  pub one_behaviour : Said (SameBehaviour t u)
  one_behaviour = (refl, (λ h. same_behaviour t u (one_by_fields h), λ b. fields_by_one (same_trace t u (one_trace t u b))))
