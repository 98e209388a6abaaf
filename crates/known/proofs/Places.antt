-- What the bounds and the mutability say of a place: one thing, and of the places alone.
use Rattle.std.proofs.Common.{◌≡◌, ℕ, ◌<◌, ◌≤◌, Bool, true, false, List, Some, None, Option, get_or, sym, ap, subst, ◌∙◌, arith, Decides, MatchOption, unwrap_or}
use Rattle.std.proofs.lemmas.Bool.{false≢true}
use Rattle.lasso.specs.declared.value.Value.{Value}
use Rattle.lasso.specs.declared.value.Value.TheVariants.{No}
use Rattle.problem.specs.declared.problem.Problem.{Problem}
use Rattle.problem.specs.Problems.{relations_in, sizes_in}
use Rattle.places.specs.declared.numbers.Tuple.{Tuple}
use Rattle.places.specs.Places.{place_count, place_of_tuple}
use Rattle.places.specs.Asked.{fixed, relation_at, FixedAt, BoundAt}
use Rattle.table.specs.declared.table.Table.{Table}
use Rattle.table.specs.Tables.{value_in}
use Rattle.known.specs.Known.{Opposed}
use Rattle.known.specs.States.{AgainstBounds}
use Rattle.places.proofs.Numbering.{inside, within, place_inv, unique}

place_inside : (ss : List ℕ) (u : Tuple) (q : ℕ) → place_of_tuple ss u ≡ Some q → q < place_count ss
place_inside ss u q e =
    let a = place_inv ss u.relation u.tuple q e in
    omega (arith, inside ss u.relation (within ss u.relation u.tuple a.under), a.under, a.number)

pub bound_inside : (p : Problem) (q : ℕ) (v : Value) → BoundAt p q v → q < place_count (sizes_in p)
bound_inside p q v b = place_inside (sizes_in p) b.at q b.there

pub fixed_inside : (p : Problem) (q : ℕ) (v : Bool) → FixedAt p q v → q < place_count (sizes_in p)
fixed_inside p q v f = place_inside (sizes_in p) f.at q f.there

pub bound_one : (p : Problem) (q : ℕ) (v w : Value) → BoundAt p q v → BoundAt p q w → v ≡ w
bound_one p q v w a b =
    a.value
    ∙ ap (λ (u : Tuple). get_or (relation_at (relations_in p) u.relation).bounds u.tuple No) (unique (sizes_in p) a.at b.at q a.there b.there)
    ∙ sym b.value

pub fixed_one : (p : Problem) (q : ℕ) (v w : Bool) → FixedAt p q v → FixedAt p q w → v ≡ w
fixed_one p q v w a b =
    a.value
    ∙ ap (λ (u : Tuple). fixed (relation_at (relations_in p) u.relation).mutability) (unique (sizes_in p) a.at b.at q a.there b.there)
    ∙ sym b.value

-- whether there is a fixed place of this number, by what is asked of it
pub fixed_decided : (p : Problem) (q : ℕ) (r : Option Bool) → MatchOption r (place_count (sizes_in p) ≤ q) (λ b. FixedAt p q b) → Decides (unwrap_or r false) (FixedAt p q true)
fixed_decided p q None h = (λ e. absurd (false≢true e), λ f. absurd (omega (arith, fixed_inside p q true f, h)))
fixed_decided p q (Some v) h = (λ e. subst (λ b. FixedAt p q b) e h, λ f. sym (fixed_one p q true v f h))

-- whether what is told of a place is opposed to its bounds, by a test of the bounds that there are
pub against_decided : {R : Value → Type 0} (p : Problem) (t : Table) (s q : ℕ) (v : Value) (o : Option Value) (r : Bool) → v ≡ value_in t s q → MatchOption o (place_count (sizes_in p) ≤ q) (λ b. BoundAt p q b) → MatchOption o (r ≡ false) R → ((b : Value) → R b → Decides r (Opposed b v)) → Decides r (AgainstBounds p t s q)
against_decided p t s q v None r e h d test = (λ y. absurd (false≢true (sym d ∙ y)), λ a. absurd (omega (arith, bound_inside p q a.bound a.is, h)))
against_decided p t s q v (Some b) r e h d test = (
  (λ y. record { bound = b; is = h; opposed = subst (λ x. Opposed b x) e ((test b d).0 y) }),
  λ a. (test b d).1 (subst (λ x. Opposed b x) (sym e) (subst (λ x. Opposed x (value_in t s q)) (bound_one p q a.bound b a.is h) a.opposed)),
)
