-- The table of all refusals, for src/lib. Assumes nothing.
use Rattle.std.specs.Prelude.{ℕ, cond, Some, None, Option, nat_le}
use Rattle.lasso.specs.declared.time.Instant.{Instant}
use Rattle.faults.specs.declared.Fault.{Fault}
use Rattle.faults.specs.declared.Fault.TheVariants.{TextTooLong, NoToken, TokenTooLong, NotAllowed, NameKnown, NameUnknown, ArityMismatch, OverLimit, LowerOutsideUpper, TooManyFreePlaces, EndsEarly, NotShortest, UnknownEdition, OutsideLimits, PlaceOutOfOrder, BytesLeftOver, FewerStatesWouldDo, TooManyBytes, PlaceCountsDiffer, Contradiction, NoConfiguration, NoMoreTraces, NoMoreConfigurations, BufferTooShort, OutsideSource}
use Rattle.faults.specs.declared.Layer.{Layer}
use Rattle.faults.specs.declared.Layer.TheVariants.{Signs, Grammar, Sense, Bytes, Session}

pub record Entry : Type 0 where
  pub number : ℕ
  pub layer : Layer
  pub place : ℕ
  pub instant : Option Instant

abbrev row : ℕ → Layer → ℕ → Entry
row n l p = record { number = n; layer = l; place = p; instant = None }

-- each refusal, with its number, its layer and its place; a contradiction has an instant too
abbrev pub entry : Fault → Entry
entry TextTooLong = row 1 Signs 8192
entry (NoToken p) = row 2 Signs p
entry (TokenTooLong p) = row 3 Signs p
entry (NotAllowed p) = row 4 Grammar p
entry (NameKnown p) = row 5 Sense p
entry (NameUnknown p) = row 6 Sense p
entry (ArityMismatch p) = row 7 Sense p
entry (OverLimit p) = row 8 Sense p
entry (LowerOutsideUpper p) = row 9 Sense p
entry (TooManyFreePlaces p) = row 10 Sense p
entry (EndsEarly p) = row 11 Bytes p
entry (NotShortest p) = row 12 Bytes p
entry (UnknownEdition p) = row 13 Bytes p
entry (OutsideLimits p) = row 14 Bytes p
entry (PlaceOutOfOrder p) = row 15 Bytes p
entry (BytesLeftOver p) = row 16 Bytes p
entry FewerStatesWouldDo = row 17 Bytes 0
entry TooManyBytes = row 18 Bytes 0
entry PlaceCountsDiffer = row 19 Session 0
entry (Contradiction p i) = record { number = 20; layer = Session; place = p; instant = Some i }
entry NoConfiguration = row 21 Session 0
entry NoMoreTraces = row 22 Session 0
entry NoMoreConfigurations = row 23 Session 0
entry BufferTooShort = row 24 Session 0
entry OutsideSource = row 25 Session 0

-- the layers by their numbers: signs 1 to 3, grammar 4, sense 5 to 10, bytes 11 to 18, session 19 to 25
abbrev pub layer_of : ℕ → Layer
layer_of n = cond (nat_le n 3) Signs (cond (nat_le n 4) Grammar (cond (nat_le n 10) Sense (cond (nat_le n 18) Bytes Session)))
