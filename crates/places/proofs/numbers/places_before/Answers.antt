use Rattle.std.proofs.Common.{◌∙◌, get_or, of_calls, rules, tests, arith}
use Rattle.std.proofs.lemmas.Iterator.{YieldsList-from_map, YieldsList-from_range}
use Rattle.std.proofs.lemmas.Iterator.Consumers.{sum_from_yields_List, fits_from_yields_list}
use Rattle.problem.specs.Problems.{sizes_in}
use Rattle.places.proofs.Numbering.{sizes_len}
use Rattle.places.proofs.Totals.{read_total, few_before}
use Rattle.places.proofs.numbers.places_before.Goals as goal

pub sum-requires : goal.sum-requires
sum-requires c =
    let p = c.args.problem.now in
    let n = c.args.relation in
    record {
      can = search of_calls;
      finite = search of_calls;
      fits = fits_from_yields_list c.map.result _ (YieldsList-from_map _ (λ i. get_or (sizes_in p) i 0) (YieldsList-from_range 0 n n (cc) (omega arith)) c.map.ensures.closure (λ x r q k. search (rules, tests))) (omega (arith, read_total (sizes_in p) n (omega (arith, sizes_len p, c.requires)), few_before p n c.requires));
    }

pub returns : goal.returns
returns c =
    let p = c.args.problem.now in
    let n = c.args.relation in
    let e = sum_from_yields_List c.map.result _ c.sum.ensures.ran (YieldsList-from_map _ (λ i. get_or (sizes_in p) i 0) (YieldsList-from_range 0 n n (cc) (omega arith)) c.map.ensures.closure (λ x r q k. search (rules, tests))) ∙ read_total (sizes_in p) n (omega (arith, sizes_len p, c.requires)) in
    record { value = e; few = omega (arith, e, few_before p n c.requires) }
