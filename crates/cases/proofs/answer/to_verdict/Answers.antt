-- What is answered by what the text is read as: no hexadecimal, a refusal, or a problem.
use Rattle.std.proofs.Common.{◌≡◌, Ok, Err, rules}
use Rattle.reader.specs.Reading.{contents, reading}
use Rattle.cases.specs.Hex.{OfBytes}
use Rattle.cases.specs.Judgements.{ToPair, ToSource, no_text, text_refused, text_read}
use Rattle.cases.proofs.Results.{ok_then}
use Rattle.cases.proofs.answer.to_verdict.Goals as goal

pub returns-in-None : goal.returns-in-None
returns-in-None c = no_text (search rules)

pub returns-in-Some-Err : goal.returns-in-Some-Err
returns-in-Some-Err c =
    let h : OfBytes c.args.text.now (λ bytes. reading bytes ≡ Err c.in-Some-Err.fault) = search rules in
    text_refused h.bytes h.hex h.holds

pub returns-in-Some-Ok : goal.returns-in-Some-Ok
returns-in-Some-Ok c =
    let h : OfBytes c.args.text.now (λ bytes. reading bytes ≡ Ok (contents c.in-Some-Ok.problem)) = search rules in
    ok_then (ToSource c.in-Some-Ok.problem c.args.log.now) (ToPair c.args.text.now c.args.log.now) c.to_source.result
    (λ a k. text_read h.bytes c.in-Some-Ok.problem h.hex h.holds k)
    c.to_source.ensures
