-- Accepted are exactly the records of traces: each trace has one, and it is read as that trace.
use Rattle.std.proofs.Common.{◌≡◌, ℕ, ◌<◌, ◌≤◌, Bool, List, [], length, get_or, take, Ok, Err, Some, None, Option, MatchOption, MatchResult, sym, refl, ap, ◌∙◌, subst, inl, inr, ⊎_elim, zero-add, arith, length-take}
use Rattle.std.specs.Option.{ok_or}
use Rattle.std.proofs.lemmas.List.{take_at, get_or-map, get_or-take, get_or_past, length-map}
use Rattle.std.proofs.lemmas.Bool.{cases_lt, false≢true}
use Rattle.faults.specs.declared.Fault.{Fault}
use Rattle.faults.specs.declared.Fault.TheVariants.{FewerStatesWouldDo}
use Rattle.lasso.specs.Lassos.{state_at, Fewest}
use Rattle.trace.specs.declared.trace.Trace.{Trace}
use Rattle.trace.specs.Tables.{holds, NoneOutside}
use Rattle.trace.specs.Traces.{IsTrace}
use Rattle.trace.proofs.One.{same_trace}
use Rattle.numbers.specs.Numbers.{over, Bytes}
use Rattle.numbers.proofs.ListsSound.{never, ok_inj}
use Rattle.record.specs.declared.read.Lasso.{Lasso}
use Rattle.record.specs.Records.{Said, helds, rows_of, said, record_of, among, holds_by}
use Rattle.record.specs.Reading.{parse, ReadsAs, Accepted, Refused, Wrote}
use Rattle.record.specs.Lassos.{saying_of, Fits}
use Rattle.record.proofs.Rows.{among_helds}
use Rattle.record.proofs.Sound.{sound}
use Rattle.record.proofs.Complete.{complete}
use Rattle.record.proofs.Settles.{settles}

row_at : (k : ℕ) (held : List (List Bool)) (s : ℕ) → k ≤ length held → s < k → get_or (rows_of k held) s [] ≡ helds 0 (get_or held s [])
row_at k held s tall h =
    let a : length (take k held) ≡ k = simp length-take (omega arith) in
    get_or-map (helds 0) (take k held) s [] [] (omega arith) ∙ ap (helds 0) (get_or-take k held s [] h)

-- what is said is what is held
module _ (n k : ℕ) (held : List (List Bool)) (tall : k ≤ length held) (none : NoneOutside n k held) where
  pub said_holds : (s p : ℕ) → among p (get_or (rows_of k held) s []) ≡ holds held s p
  said_holds s p =
      ⊎_elim
      (λ lo. ap (among p) (row_at k held s tall lo) ∙ ap (λ q. among q (helds 0 (get_or held s []))) (sym (zero-add p)) ∙ among_helds 0 p (get_or held s []))
      (λ (hi : k ≤ s). ap (among p) (get_or_past (rows_of k held) s [] (simp (length-map, length-take) (omega arith))) ∙ sym (none s p (inl hi)))
      (cases_lt s k)

tall_trace : (t : Trace) → t.shape.states ≤ length t.held
tall_trace t = omega (arith, t.tall, t.few_states)

-- a trace is what its record says
pub said_inj : (t u : Trace) → said t ≡ said u → t ≡ u
said_inj t u e =
    let k : t.shape.states ≡ u.shape.states = ap (λ d. d.states) e in
    same_trace t u (record {
      places = ap (λ d. d.places) e;
      states = k;
      loop_start = ap (λ d. d.start) e;
      held = λ s p.
          sym (said_holds t.places t.shape.states t.held (tall_trace t) t.none_outside s p)
          ∙ ap (λ d. among p (get_or d.rows s [])) e
          ∙ said_holds u.places u.shape.states u.held (tall_trace u) u.none_outside s p;
    })

-- ---- what is accepted
ok_same : (d c : Said) (bs : List ℕ) → parse bs ≡ Ok d → parse bs ≡ Ok c → d ≡ c
ok_same d c bs p q = ok_inj d c (sym p ∙ q)

pub reads_as : (bs : List ℕ) (t : Trace) → parse bs ≡ Ok (said t) → ReadsAs bs t
reads_as bs t e = record { says = e; only = λ u x. said_inj u t (ok_same (said u) (said t) bs x e) }

pub accepted : (bs : List ℕ) (t : Trace) → Bytes bs → parse bs ≡ Ok (said t) → Accepted bs t
accepted bs t bytes e =
    let s = sound bs (said t) bytes e in
    record { is_record = s; reads = reads_as bs t e; one_record = λ other b x. sound other (said t) b x ∙ sym s }

pub said_like : (t : Trace) (l : Lasso) → t.places ≡ l.places → t.shape ≡ l.shape → t.held ≡ l.held → said t ≡ saying_of l
said_like t l n s h = λ i. record { places = n i; states = (s i).states; start = (s i).loop_start; rows = rows_of (s i).states (h i) }

pub written : (t : Trace) (old new : List ℕ) (len : ℕ) → len ≡ length (record_of (said t)) → new ≡ over (record_of (said t)) old → Wrote t old new len
written t old new len e f =
    let r : take len new ≡ record_of (said t) = ap (take len) f ∙ take_at (record_of (said t)) _ len (sym e) in
    record { length_is = e; bytes = f; back = reads_as (take len new) t (ap parse r ∙ complete t) }

-- ---- what is refused
pub refused_reading : (bs : List ℕ) (f : Fault) → Bytes bs → parse bs ≡ Err f → Refused bs f
refused_reading bs f bytes e = record { no_record = λ t r. never f (said t) (sym e ∙ ap parse r ∙ complete t); why = inl e; settled = settles bs bytes f e }

fewest_same : {k l : ℕ} (f g : ℕ → ℕ → Bool) → ((s p : ℕ) → f s p ≡ g s p) → Fewest k l f → Fewest k l g
fewest_same {k} {l} f g same few x =
    few (record { states = x.states; start = x.start; values = x.values; fewer = x.fewer; loops = x.loops; same = λ i p. x.same i p ∙ sym (same (state_at k l i) p) })

module _ (bs : List ℕ) (l : Lasso) (fits : Fits l) (e : parse bs ≡ Ok (saying_of l)) (none : IsTrace l.places l.shape l.held → ⊥) where
  same : (s p : ℕ) → holds_by (saying_of l) s p ≡ holds l.held s p
  same = said_holds l.places l.shape.states l.held (omega (arith, fits.tall, fits.few_states)) fits.none_outside

  too_many : Fewest l.shape.states l.shape.loop_start (holds_by (saying_of l)) → ⊥
  too_many few = none (record { few_places = fits.few_places; few_states = fits.few_states; none_outside = fits.none_outside; fewest = fewest_same (holds_by (saying_of l)) (holds l.held) same few })

  no_trace : (t : Trace) → bs ≡ record_of (said t) → ⊥
  no_trace t r =
      let x : said t ≡ saying_of l = ok_inj (said t) (saying_of l) (sym (ap parse r ∙ complete t) ∙ e) in
      let few : Fewest t.shape.states t.shape.loop_start (holds_by (said t)) = fewest_same (holds t.held) (holds_by (said t)) (λ s p. sym (said_holds t.places t.shape.states t.held (tall_trace t) t.none_outside s p)) t.fewest in
      let P : Said → Type 0 = λ d. Fewest d.states d.start (holds_by d) in
      too_many (subst P x few)

  pub refused_states : Refused bs FewerStatesWouldDo
  refused_states = record { no_record = no_trace; why = inr (record { lasso = saying_of l; says = e; too_many = too_many }, refl); settled = λ b. absurd (false≢true b) }

-- a lasso that was read is accepted where it is a trace, and else refused
pub decided : (bs : List ℕ) (l : Lasso) → Bytes bs → Fits l → parse bs ≡ Ok (saying_of l) → (o : Option Trace) → MatchOption o (IsTrace l.places l.shape l.held → ⊥) (λ t. (t.places ≡ l.places) × (t.shape ≡ l.shape) × (t.held ≡ l.held))
    → MatchResult (ok_or o FewerStatesWouldDo) (λ t. Accepted bs t) (λ f. Refused bs f)
decided bs l bytes fits e (Some t) s = accepted bs t bytes (e ∙ ap Ok (sym (said_like t l s.0 s.1 s.2)))
decided bs l bytes fits e None none = refused_states bs l fits e none
