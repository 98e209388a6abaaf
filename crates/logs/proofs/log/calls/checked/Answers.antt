use Rattle.std.proofs.Common.{arith}
use Rattle.std.proofs.lemmas.Result.{MatchResult-weaker}
use Rattle.numbers.specs.Numbers.{Bytes}
use Rattle.logs.proofs.Exact.{is_read, is_refused}
use Rattle.logs.proofs.log.calls.checked.Goals as goal

pub returns : goal.returns
returns c =
    let bs = c.args.bytes.now in
    let bytes : Bytes bs = λ i. omega (arith, c.type_inv.bytes i) in
    MatchResult-weaker c.parsed.result c.parsed.ensures (λ _ ok. is_read bs bytes ok) (λ f e. is_refused bs f bytes e)
