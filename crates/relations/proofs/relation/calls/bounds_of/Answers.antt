use Rattle.std.proofs.Common.{◌≡◌, length, get_or, false, rules, refl, sym, ap, ◌∙◌, arith}
use Rattle.std.proofs.lemmas.List.{ext_get_or}
use Rattle.lasso.specs.declared.value.Value.TheVariants.{No}
use Rattle.relations.specs.declared.tuples.TupleSet.{TupleSet}
use Rattle.relations.specs.Relations.{bound, bounds_of}
use Rattle.relations.proofs.Bounds.{length_bounds, get_d_bounds}
use Rattle.relations.proofs.Made.{made_at}
use Rattle.relations.proofs.relation.calls.bounds_of.Goals as goal

-- the search makes no induction over the calls of a closure that holds both sets, also not with these three lemmas by `using`
pub returns-clause-value : goal.returns-clause-value
returns-clause-value c =
    let ls = c.args.lower.now.held in
    let us = c.args.upper.now.held in
    let bs = c.from_fn.result in
    let m = c.from_fn.ensures.items in
    let same : length ls ≡ length us = c.args.lower.now.whole ∙ sym c.args.upper.now.whole in
    let full : length (bounds_of ls us) ≡ 64 = length_bounds ls us same ∙ c.args.lower.now.whole in
    ext_get_or No bs (bounds_of ls us) (m.long ∙ sym full) (λ k h.
    made_at _ (λ f. (f.0.now ≡ c.args.lower.now) × (f.1.now ≡ c.args.upper.now)) (λ i. bound (get_or ls i false) (get_or us i false))
    (λ f i y q s met.
    let e : y ≡ bound (get_or f.0.now.held i false) (get_or f.1.now.held i false) = search rules in
    let a : q.0.now ≡ c.args.lower.now = search rules in
    let b : q.1.now ≡ c.args.upper.now = search rules in
    ((a, b), e ∙ ap (λ (x : TupleSet). bound (get_or x.held i false) (get_or f.1.now.held i false)) s.0 ∙ ap (λ (x : TupleSet). bound (get_or ls i false) (get_or x.held i false)) s.1))
    _ bs 0 64 k No (refl, refl) m.each (omega arith) (omega (arith, m.long, h))
    ∙ sym (get_d_bounds ls us k same (omega (arith, m.long, h, c.args.lower.now.whole))))
