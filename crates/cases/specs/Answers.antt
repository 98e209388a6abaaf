-- What is answered to a line. Assumes nothing.
use Rattle.std.specs.Prelude.{◌≡◌, ℕ, List, Some, None, Ok, Err, Result, Option, MatchResult}
use Rattle.faults.specs.declared.Fault.{Fault}
use Rattle.problem.specs.declared.problem.Problem.{Problem}
use Rattle.record.specs.Reading as record_reading
use Rattle.logs.specs.Told as log_reading
use Rattle.reader.specs.Reading.{Contents, contents, reading}
use Rattle.cases.specs.declared.answer.Answer.{Answer}
use Rattle.cases.specs.declared.answer.Answer.TheVariants.{Held, Known, Accepted, Refused, Judged, Unknown}
use Rattle.cases.specs.declared.kind.Kind.{Kind}
use Rattle.cases.specs.declared.kind.Kind.TheVariants.{Record, Log, Text, Verdict}
use Rattle.cases.specs.Kinds.{IsKind}
use Rattle.cases.specs.Hex.{OfBytes, NoHex}
use Rattle.cases.specs.Judgements.{OfPair}

-- the answer to a record: the trace that it holds, or its refusal
abbrev pub ToRecord : List ℕ → Answer → Type 0
ToRecord text (Held t) = OfBytes text (λ bytes. record_reading.Accepted bytes t)
ToRecord text (Known s) = ⊥
ToRecord text Accepted = ⊥
ToRecord text (Refused f) = OfBytes text (λ bytes. record_reading.Refused bytes f)
ToRecord text (Judged j) = ⊥
ToRecord text Unknown = NoHex text

-- the answer to a log: a line where it is one, or its refusal
abbrev pub ToLog : List ℕ → Answer → Type 0
ToLog text (Held t) = ⊥
ToLog text (Known s) = OfBytes text (λ bytes. log_reading.IsRead bytes)
ToLog text Accepted = ⊥
ToLog text (Refused f) = OfBytes text (λ bytes. log_reading.Refused bytes f)
ToLog text (Judged j) = ⊥
ToLog text Unknown = NoHex text

-- what bytes are read as: what a problem holds, or a refusal
abbrev pub ReadAs : List ℕ → Result Problem Fault → Type 0
ReadAs bytes r = MatchResult r (λ p. reading bytes ≡ Ok (contents p)) (λ f. reading bytes ≡ Err f)

-- the answer to a problem text: accepted exactly where it is read, or its refusal
abbrev pub ToText : List ℕ → Answer → Type 0
ToText text (Held t) = ⊥
ToText text (Known s) = ⊥
ToText text Accepted = OfBytes text (λ bytes. (problem : Contents) × (reading bytes ≡ Ok problem))
ToText text (Refused f) = OfBytes text (λ bytes. reading bytes ≡ Err f)
ToText text (Judged j) = ⊥
ToText text Unknown = NoHex text

-- the answer to a case of a kind; any other is not understood
abbrev pub ToKind : Option Kind → List ℕ → Answer → Type 0
ToKind (Some Record) text a = ToRecord text a
ToKind (Some Log) text a = ToLog text a
ToKind (Some Text) text a = ToText text a
ToKind (Some Verdict) text a = OfPair text a
ToKind None text a = a ≡ Unknown

-- the answer to a line
pub record Answers (word text : List ℕ) (a : Answer) : Type 0 where
  pub kind : Option Kind
  pub is : IsKind word kind
  pub answer : ToKind kind text a
