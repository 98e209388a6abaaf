use Rattle.problem.specs.Problems.{sizes_in}
use Rattle.places.proofs.Numbering.{exact_from}
use Rattle.places.proofs.numbers.sought.Goals as goal

pub returns : goal.returns
returns c = record { found = c.seek.ensures; exact = exact_from (sizes_in c.args.problem.now) c.args.place c.seek.result c.seek.ensures }
