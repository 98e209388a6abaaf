-- How bytes are read as a record: what it says, or the first fault. Assumes nothing.
use Rattle.std.specs.Prelude.{◌≡◌, ℕ, ◌<◌, cond, ◌⊎◌, List, [], length, take, Ok, Err, Result, ◌≢◌, nat_lt}
use Rattle.faults.specs.declared.Fault.{Fault}
use Rattle.faults.specs.declared.Fault.TheVariants.{OutsideLimits, BytesLeftOver, FewerStatesWouldDo, TooManyBytes, BufferTooShort}
use Rattle.lasso.specs.Lassos.{Fewest}
use Rattle.trace.specs.declared.trace.Trace.{Trace}
use Rattle.trace.specs.Tables.{most_places, most_states}
use Rattle.numbers.specs.Numbers.{most_bytes, and_then, read_at, within, edition, over, Bytes}
use Rattle.numbers.specs.Lists.{Read, lists}
use Rattle.numbers.specs.Settled.{Settled}
use Rattle.record.specs.Records.{itself, Said, said, record_of, holds_by}

-- what comes before the states
pub record Heading : Type 0 where
  pub places : ℕ
  pub states : ℕ
  pub start : ℕ
  pub next : ℕ

-- the loop start, which is a state
abbrev pub loop_start : List ℕ → ℕ → ℕ → ℕ → Result Heading Fault
loop_start bs n k at =
    and_then (read_at bs at) (λ l. cond (nat_lt l.value k) (Ok (record { places = n; states = k; start = l.value; next = l.next })) (Err (OutsideLimits at)))

abbrev pub heading : List ℕ → Result Heading Fault
heading bs =
    and_then (edition bs) (λ a.
    and_then (within bs a 0 most_places) (λ n.
    and_then (within bs n.next 1 most_states) (λ k.
    loop_start bs n.value k.value k.next)))

-- what is left after the states: nothing
abbrev pub ended : List ℕ → Heading → Read (List (List ℕ)) → Result Said Fault
ended bs h v = cond (nat_lt v.next (length bs)) (Err (BytesLeftOver v.next)) (Ok (record { places = h.places; states = h.states; start = h.start; rows = v.got }))

-- what bytes say as a record, whether or not fewer states would do
abbrev pub parse : List ℕ → Result Said Fault
parse bs =
    cond (nat_lt most_bytes (length bs)) (Err TooManyBytes)
    (and_then (heading bs) (λ h. and_then (lists itself bs h.places h.states h.next []) (λ v. ended bs h v)))

-- bytes read as a trace, and as no other
pub record ReadsAs (bs : List ℕ) (t : Trace) : Type 0 where
  pub says : parse bs ≡ Ok (said t)
  pub only : (u : Trace) → parse bs ≡ Ok (said u) → u ≡ t

-- bytes are accepted: they are the record of the trace, they read as it, and no other bytes do
pub record Accepted (bs : List ℕ) (t : Trace) : Type 0 where
  pub is_record : bs ≡ record_of (said t)
  pub reads : ReadsAs bs t
  pub one_record : (other : List ℕ) → Bytes other → parse other ≡ Ok (said t) → other ≡ bs

-- the lasso that bytes say has more states than its behaviour needs
pub record NotFewest (bs : List ℕ) : Type 0 where
  pub lasso : Said
  pub says : parse bs ≡ Ok lasso
  pub too_many : Fewest lasso.states lasso.start (holds_by lasso) → ⊥

-- bytes are refused: no trace has them for its record, this is the fault, and a number at fault settles it whatever follows
pub record Refused (bs : List ℕ) (f : Fault) : Type 0 where
  pub no_record : (t : Trace) → bs ≢ record_of (said t)
  pub why : (parse bs ≡ Err f) ⊎ (NotFewest bs × (f ≡ FewerStatesWouldDo))
  pub settled : Settled parse bs f

-- a trace's record was written over the start of a buffer, and reads back as that trace
pub record Wrote (t : Trace) (old new : List ℕ) (len : ℕ) : Type 0 where
  pub length_is : len ≡ length (record_of (said t))
  pub bytes : new ≡ over (record_of (said t)) old
  pub back : ReadsAs (take len new) t

-- it was not written: there was no room, and the buffer is as it was
pub record NoRoom (t : Trace) (old new : List ℕ) (f : Fault) : Type 0 where
  pub fault : f ≡ BufferTooShort
  pub short : length old < length (record_of (said t))
  pub same : new ≡ old
