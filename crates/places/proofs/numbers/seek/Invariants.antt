use Rattle.std.proofs.Common.{◌≡◌, ◌+◌}
use Rattle.problem.specs.Problems.{sizes_in}
use Rattle.places.specs.Places.{before}
use Rattle.places.proofs.numbers.seek.Given as goal

abbrev pub invariant-seek : goal.invariant-seek
invariant-seek l = before (sizes_in l.problem) l.relation + l.left ≡ l.place
