use Rattle.std.proofs.lemmas.Bool.Decides.{Decides-like}
use Rattle.lasso.proofs.Rounds.{fewest, shorter}
use Rattle.trace.specs.Tables.{holds}
use Rattle.trace.proofs.fewest.Lasso.is_fewest.Goals as goal

pub returns : goal.returns
returns c =
    let s = c.args.self.now.shape in
    let f = holds c.args.self.now.held.now in
    Decides-like c.none_shorter.result
    (λ none. fewest s.states s.loop_start f s.loops (λ m start b h r. (none m b).none start h r))
    (λ few m b. record { none = λ start h r. few (shorter s.states s.loop_start f s.loops m start b h r) })
    c.none_shorter.ensures
