-- The laws hold whatever is returned: lemmas of the meaning.
use Rattle.meaning.proofs.Laws.{refinement, settled}
use Rattle.verdict.proofs.verdict.Goals as goal

pub returns-clause-filled : goal.returns-clause-filled
returns-clause-filled c after = refinement

pub returns-clause-settled : goal.returns-clause-settled
returns-clause-settled c after = settled
