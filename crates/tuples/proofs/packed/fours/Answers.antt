use Rattle.std.proofs.Common.{◌≡◌, rules, refl, ap, ◌∙◌, arith}
use Rattle.relations.proofs.Made.{made_at}
use Rattle.tuples.specs.Tabled.{table_of}
use Rattle.tuples.specs.declared.tuples.Tuples.{Tuples}
use Rattle.tuples.specs.Packing.{four_of}
use Rattle.tuples.proofs.packed.fours.Goals as goal

-- the search makes no induction over the calls of a closure that holds a reference
pub returns : goal.returns
returns g c byte l =
    let t = c.args.tuples.now in
    made_at _ (λ f. f.0.now ≡ t) (four_of (table_of t))
    (λ f i y q s met.
    let e : y ≡ four_of (table_of f.0.now) i = search rules in
    let a : q.0.now ≡ t = search rules in
    (a, e ∙ ap (λ (x : Tuples). four_of (table_of x) i) s))
    _ c.from_fn.result 0 g.row.N byte 0 refl c.from_fn.ensures.items.each (omega arith) (omega (arith, l))
