use Rattle.std.proofs.Common.{refl, rules}
use Rattle.std.proofs.lemmas.Result.{MatchResult-weaker}
use Rattle.formulas.proofs.Steps.{put_told}
use Rattle.formulas.proofs.sketch.Sketch.put.Goals as goal

pub returns : goal.returns
returns c =
    put_told c.args.kind c.args.node c.args.place c.len-bound.result c.put.result c.map_err.result c.args.self.now _
    (MatchResult-weaker c.put.result c.map_err.ensures.cases (λ i h. h) (λ u h. search rules))
    c.put.ensures.value c.put.ensures.kept c.len-bound.ensures refl refl
