-- What is answered to a problem text and a source, for src/judgement and src/answer. Assumes nothing.
use Rattle.std.specs.Prelude.{◌≡◌, ℕ, List, codes, Ok, Err, Result, ◌≢◌}
use Rattle.lasso.specs.declared.value.Value.{Value}
use Rattle.faults.specs.declared.Fault.{Fault}
use Rattle.source.specs.Meanings.{Meaning}
use Rattle.source.specs.Sources.{blank_meaning}
use Rattle.logs.specs.Logs.{said}
use Rattle.logs.specs.Meanings.{log_meaning}
use Rattle.logs.specs.Told.{IsRead, Refused as LogIsRefused}
use Rattle.problem.specs.declared.problem.Problem.{Problem}
use Rattle.problem.specs.Problems.{sizes_in}
use Rattle.reader.specs.Reading.{contents, reading}
use Rattle.places.specs.Places.{place_count}
use Rattle.known.specs.Known.{Misfit}
use Rattle.verdict.specs.Verdicts.{Verdict as VerdictOn}
use Rattle.cases.specs.declared.answer.Answer.{Answer}
use Rattle.cases.specs.declared.answer.Answer.TheVariants as answer
use Rattle.cases.specs.declared.judgement.NoVerdict.{NoVerdict}
use Rattle.cases.specs.declared.judgement.NoVerdict.TheVariants.{TextRefused, LogRefused, Unfit}
use Rattle.cases.specs.Lines.{Cut}
use Rattle.cases.specs.Hex.{Hex, NoHex}

-- a verdict, or why there is none
abbrev pub Judgement : Type 0
Judgement = Result Value NoVerdict

-- on a problem, by what a source means: the verdict, or why the source does not fit
abbrev pub ByMeaning : Problem → Meaning → Judgement → Type 0
ByMeaning p m (Ok v) = VerdictOn p m v
ByMeaning p m (Err (TextRefused f)) = ⊥
ByMeaning p m (Err (LogRefused f)) = ⊥
ByMeaning p m (Err (Unfit f)) = Misfit p m f

-- by a source that knows nothing of as many places as the problem has
abbrev pub ByNothing : Problem → Judgement → Type 0
ByNothing p j = ByMeaning p (blank_meaning (place_count (sizes_in p))) j

-- by the bytes of a log: by what they say, or their refusal
pub data ByBytes (p : Problem) (bytes : List ℕ) : Judgement → Type 0 where
  log_refused : {f : Fault} → LogIsRefused bytes f → ByBytes p bytes (Err (LogRefused f))
  log_read : {j : Judgement} → IsRead bytes → ByMeaning p (log_meaning (said bytes)) j → ByBytes p bytes j

-- a dash for the source, or a log in hexadecimal; any other is not understood
pub data ToSource (p : Problem) (log : List ℕ) : Answer → Type 0 where
  dash : {j : Judgement} → log ≡ codes "-" → ByNothing p j → ToSource p log (answer.Judged j)
  hex : {j : Judgement} (bytes : List ℕ) → log ≢ codes "-" → Hex log bytes → ByBytes p bytes j → ToSource p log (answer.Judged j)
  no_hex : log ≢ codes "-" → NoHex log → ToSource p log answer.Unknown

-- a problem text in hexadecimal, and a source where the text is read
pub data ToPair (text log : List ℕ) : Answer → Type 0 where
  no_text : NoHex text → ToPair text log answer.Unknown
  text_refused : {f : Fault} (bytes : List ℕ) → Hex text bytes → reading bytes ≡ Err f → ToPair text log (answer.Judged (Err (TextRefused f)))
  text_read : {a : Answer} (bytes : List ℕ) (p : Problem) → Hex text bytes → reading bytes ≡ Ok (contents p) → ToSource p log a → ToPair text log a

-- the text and the source, with a space between them
pub record OfPair (text : List ℕ) (a : Answer) : Type 0 where
  pub word : List ℕ
  pub log : List ℕ
  pub cut : Cut text 32 word log
  pub answer : ToPair word log a
