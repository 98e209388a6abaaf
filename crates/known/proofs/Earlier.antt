-- What the test of a range of states says of what is told of a place.
use Rattle.std.proofs.Common.{◌≡◌, ℕ, ◌+◌, ◌-◌, ◌<◌, Bool, true, false, Option, List, refl, sym, subst, arith, Decides, MatchOption, length}
use Rattle.std.proofs.lemmas.Bool.{false≢true}
use Rattle.std.proofs.lemmas.Iterator.{cases_from_any, YieldsList-from_range}
use Rattle.std.proofs.lemmas.List.FromFn.{length-range_with_len, get_or-range_with_len}
use Rattle.std.proofs.iter.Yields.{nat_range_steps}
use Rattle.std.specs.Fn.{Called}
use Rattle.std.specs.Iterator.{YieldsThen}
use Rattle.std.specs.List.{FoldsTo, range_with_len, AllWithin, HoldsAt}
use Rattle.std.specs.Bool.{MatchBool}
use Rattle.std.specs.declared.ops.Range.{Range}
use denote.Param.Members.{Mut}
use Rattle.lasso.specs.declared.value.Value.{Value}
use Rattle.table.specs.declared.table.Table.{Table}
use Rattle.table.specs.Tables.{value_in}
use Rattle.known.specs.Known.{Opposed}
use Rattle.known.specs.States.{OpposedBefore, OpposedIn}

-- by the numbers of the states
told_in : (t : Table) (lo hi place : ℕ) (v : Value) (r : Bool)
    → MatchBool r ((k : ℕ) × (k < length (range_with_len lo (hi - lo))) × HoldsAt (λ s. Opposed (value_in t s place) v) (range_with_len lo (hi - lo)) k) (AllWithin (λ s. Opposed (value_in t s place) v → ⊥) (range_with_len lo (hi - lo)) 0 (length (range_with_len lo (hi - lo))))
    → Decides r (OpposedIn t lo hi place v)
told_in t lo hi place v true (k, l, h) =
    let n : k < hi - lo = omega (arith, l, length-range_with_len lo (hi - lo)) in
    let e = get_or-range_with_len lo (hi - lo) k 0 n in
    ((λ _. record { state = lo + k; low = omega arith; high = omega arith; opposed = subst (λ s. Opposed (value_in t s place) v) e (h 0) }), λ _. refl)
told_in t lo hi place v false h = (
  (λ e. absurd (false≢true e)),
  λ o.
      let n : o.state - lo < hi - lo = omega (arith, o.low, o.high) in
      let e : o.state ≡ _ = omega (arith, o.low, get_or-range_with_len lo (hi - lo) (o.state - lo) 0 n) in
      absurd (h (o.state - lo) 0 (omega arith) (omega (arith, n, length-range_with_len lo (hi - lo))) (subst (λ s. Opposed (value_in t s place) v) e o.opposed)),
)

-- by the calls of the test
pub in_decided : {F : Type 0} {g : Mut F (ℕ × Unit {0}) Bool} (t : Table) (place : ℕ) (v : Value) (s : Range ℕ) {u : Range ℕ} {f : F} (r : Bool)
    → (xs : List ℕ) × (o : Option ℕ) × (j : F) × YieldsThen nat_range_steps s xs o u × FoldsTo (λ p x q. Called g p (x, tt) false q) f xs j × MatchOption o (r ≡ false) (λ x. (r ≡ true) × ((h : F) × Called g j (x, tt) true h))
    → ((x : ℕ) (q : F) → Called g f (x, tt) true q → Opposed (value_in t x place) v)
    → ((x : ℕ) (q : F) → Called g f (x, tt) false q → (q ≡ f) × (Opposed (value_in t x place) v → ⊥))
    → Decides r (OpposedIn t s.start s.end place v)
in_decided t place v s {u} {f} r ran yes' no' = told_in t s.start s.end place v r (cases_from_any u f r (λ x. Opposed (value_in t x place) v) (λ x. Opposed (value_in t x place) v → ⊥) ran (YieldsList-from_range s.start s.end (s.end - s.start) refl refl) yes' no')

-- of all states before one
pub before_decided : (t : Table) (s place : ℕ) (v : Value) (r : Bool) → v ≡ value_in t s place → Decides r (OpposedIn t 0 s place v) → Decides r (OpposedBefore t s place)
before_decided t s place v r e d = (
  (λ y. let o = d.0 y in record { earlier = o.state; before = o.high; opposed = subst (λ x. Opposed (value_in t o.state place) x) e o.opposed }),
  λ b. d.1 (record { state = b.earlier; low = omega arith; high = b.before; opposed = subst (λ x. Opposed (value_in t b.earlier place) x) (sym e) b.opposed }),
)
