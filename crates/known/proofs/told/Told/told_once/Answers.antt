use Rattle.std.proofs.Common.{◌≡◌, ◌≢◌, sym, ap, ◌∙◌, subst, rules, tests, arith}
use Rattle.std.proofs.lemmas.Iterator.{first_from_find, YieldsList-from_map, YieldsList-from_range}
use Rattle.lasso.specs.declared.value.Value.TheVariants.{Open}
use Rattle.lasso.specs.declared.shape.Shape.{Shape}
use Rattle.table.specs.Tables.{value_in}
use Rattle.known.specs.States.{ToldOnce}
use Rattle.known.proofs.Firsts.{first_told}
use Rattle.known.proofs.told.Told.told_once.Goals as goal

pub returns : goal.returns
returns c =
    let t = c.args.self.now.table.now in
    let place = c.args.place in
    let e : c.states.result ≡ t.shape.states = c.states.ensures.value ∙ ap (λ (x : Shape). x.states) c.shape.ensures.value in
    let found = first_from_find _ _ _ (λ v. v ≢ Open) (λ v. v ≡ Open) c.find.ensures.ran (YieldsList-from_map _ (λ s. value_in t s place) (YieldsList-from_range 0 c.states.result c.states.result (cc) (omega arith)) c.map.ensures.closure (λ x r q k. search rules)) (λ x q k. search (rules, tests)) (λ x q k. search (rules, tests)) in
    subst (λ v. ToldOnce t place v) (sym c.unwrap_or.ensures) (first_told t place c.states.result c.find.result e found)
