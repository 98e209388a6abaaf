use Rattle.std.proofs.lemmas.Bool.Decides.{Decides-like}
use Rattle.lasso.proofs.Rounds.{enough}
use Rattle.trace.specs.Tables.{holds}
use Rattle.trace.proofs.fewest.Lasso.repeats.Goals as goal

pub returns : goal.returns
returns c =
    let s = c.args.self.now.shape in
    Decides-like c.round_seen.result
    (λ seen. enough s.states s.loop_start (holds c.args.self.now.held.now) s.loops c.args.from c.args.period (λ i p m b. (seen i m b).same p))
    (λ r i m _. record { same = λ p. r.again i p m })
    c.round_seen.ensures
