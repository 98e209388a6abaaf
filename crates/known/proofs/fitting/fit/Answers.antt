use Rattle.std.proofs.Common.{◌≡◌}
use Rattle.std.proofs.lemmas.Bool.Decides.{not_from_Decides}
use Rattle.problem.specs.Problems.{sizes_in}
use Rattle.places.specs.Places.{place_count}
use Rattle.known.proofs.Clashes.{differs, contradicted, fits}
use Rattle.known.proofs.fitting.fit.Goals as goal

pub returns-then-not-counts_agree : goal.returns-then-not-counts_agree
returns-then-not-counts_agree c = λ m copied.
    differs c.args.problem.now m c.args.told.now copied
    (not_from_Decides {P = c.args.told.now.places ≡ place_count (sizes_in c.args.problem.now)} c.counts_agree.result c.counts_agree.ensures c.if-not-counts_agree.true)

pub returns-in-Some : goal.returns-in-Some
returns-in-Some c = λ m copied.
    contradicted c.args.problem.now m c.args.told.now c.in-Some.instant c.in-Some.place copied (c.counts_agree.ensures.0 c.if-not-counts_agree.false) c.in-Some.ensures

pub returns-in-None : goal.returns-in-None
returns-in-None c = λ m copied.
    fits c.args.problem.now m c.args.told.now copied (c.counts_agree.ensures.0 c.if-not-counts_agree.false) c.in-None.ensures
