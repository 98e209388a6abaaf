use Rattle.std.proofs.Common.{rules}
use Rattle.cases.specs.Judgements.{dash, hex, no_hex}
use Rattle.cases.proofs.answer.to_source.Goals as goal

pub returns-then-is_word : goal.returns-then-is_word
returns-then-is_word c = dash (c.is_word.ensures.0 c.if-is_word.true) c.by_nothing.ensures

pub returns-in-Some : goal.returns-in-Some
returns-in-Some c = hex c.as_slice.result.now (search rules) (rw c.as_slice.ensures.value (search rules)) c.by_log.ensures

pub returns-in-None : goal.returns-in-None
returns-in-None c = no_hex (search rules) (search rules)
