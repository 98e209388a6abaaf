use Rattle.numbers.proofs.Laws.{answers_exact}
use Rattle.numbers.proofs.reader.Reader.exact_number.Goals as goal

pub returns-clause-exact : goal.returns-clause-exact
returns-clause-exact c = answers_exact _ _ _ _ c.next_number.ensures.bytes c.next_number.ensures.value
