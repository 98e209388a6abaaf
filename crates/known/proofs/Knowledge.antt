-- What is known in each state is known at each instant.
use Rattle.std.proofs.Common.{◌≡◌, ℕ, Bool, true, false, inr, sym, ap, subst, ◌∙◌, arith}
use Rattle.lasso.specs.declared.value.Value.{Value}
use Rattle.lasso.specs.declared.value.Value.TheVariants.{Open}
use Rattle.lasso.specs.declared.shape.Shape.{Shape}
use Rattle.lasso.specs.Lassos.{state_at}
use Rattle.source.specs.Meanings.{Meaning}
use Rattle.problem.specs.declared.problem.Problem.{Problem}
use Rattle.places.specs.Asked.{FixedAt, BoundAt}
use Rattle.table.specs.declared.table.Table.{Table}
use Rattle.table.specs.Tables.{value_in, path_of, Copied}
use Rattle.known.specs.Known.{KnownAt, settled, told, told_once, never_told, Fits, IsKnown}
use Rattle.known.specs.States.{ToldOnce, once, never, KnownIn, StatesKnown}
use Rattle.known.proofs.Instants.{state, state_below, same_state, told_in, told_is, told_first}

-- what the bounds settle
pub settled_known : (p : Problem) (t : Table) (s q : ℕ) (v : Value) → BoundAt p q v → (v ≡ Open → ⊥) → KnownIn p t s q v
settled_known p t s q v b ne = record { known = λ m c i e. settled b ne }

-- what is told of a mutable place in a state
pub mutable_known : (p : Problem) (t : Table) (s q : ℕ) (v : Value) (f : Bool) → BoundAt p q Open → FixedAt p q f → f ≡ false → v ≡ value_in t s q → KnownIn p t s q v
mutable_known p t s q v f b x e same = record {
  known = λ m c i h. subst (λ w. KnownAt p m i q w) (told_in m t c i s q h ∙ sym same) (told b (subst (λ y. FixedAt p q y) e x));
}

fixed_once_known : (p : Problem) (t : Table) (s q : ℕ) (v : Value) → BoundAt p q Open → FixedAt p q true → ToldOnce t q v → KnownIn p t s q v
fixed_once_known p t s q v b f (once j h e ne) = record { known = λ m c i _. told_once j b f (told_first m t c j q h ∙ e) ne }
fixed_once_known p t s q v b f (never all) = record { known = λ m c i _. never_told b f (λ j. told_is m t c j q ∙ all (state t j) (state_below t j)) }

-- what any state tells of a fixed place
pub fixed_known : (p : Problem) (t : Table) (s q : ℕ) (v : Value) (f : Bool) → BoundAt p q Open → FixedAt p q f → f ≡ true → ToldOnce t q v → KnownIn p t s q v
fixed_known p t s q v f b x e h = fixed_once_known p t s q v b (subst (λ y. FixedAt p q y) e x) h

pub is_known : (p : Problem) (m : Meaning) (t known : Table) → Copied m t → Fits p m → StatesKnown p t t.shape.states known → IsKnown p m (path_of known)
is_known p m t known c fits k = record {
  inside = λ i q h.
      let s = state t i in
      let e : s ≡ state known i = ap (λ (x : Shape). state_at x.states x.loop_start i) (sym k.shape_is) in
      subst (λ x. KnownAt p m i q (value_in known x q)) e
      ((k.value s q (state_below t i) (omega (arith, fits.places, c.places_are)) h).known m c i (same_state m t c i));
  outside = λ i q h. known.none_beyond (state known i) q (inr (omega (arith, fits.places, c.places_are, k.places_are)));
}
