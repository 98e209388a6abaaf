use Rattle.std.proofs.Common.{rules}
use Rattle.tuples.proofs.tuples.Tuples.round.Goals as goal

pub returns : goal.returns
returns c inside = (c.tabled.ensures.arity, λ r l. let h = c.tabled.ensures.values r l in search rules)
