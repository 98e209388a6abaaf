use Rattle.std.proofs.Common.{◌≡◌, ◌<◌, List, map, length, get_or, slice_index, sym, ap, ◌∙◌, arith}
use Rattle.std.proofs.lemmas.Option.{get_or_from_slice_get}
use Rattle.relations.specs.declared.relation.Relation.{Relation}
use Rattle.relations.specs.Relations.{Declared, declared_of, arity_number}
use Rattle.relations.specs.Declarations.{arities}
use Rattle.problem.proofs.Nths.{nth_arities}
use Rattle.evaluate.proofs.parts.arity_of.Goals as goal

pub returns : goal.returns
returns c =
    let rs = c.relations.result.now in
    let d = c.index-relations-relation.result in
    let i = c.args.relation in
    let h : i < length rs = omega (arith, c.relations.ensures.len, c.requires) in
    let g : get_or (arities (map declared_of rs)) i 0 ≡ arity_number (get_or rs i d).arity =
    get_or_from_slice_get (arities (map declared_of rs)) i (arity_number (get_or rs i d).arity) 0 (nth_arities rs i d h) in
    ap arity_number (c.arity.ensures ∙ ap (λ (r : Relation). r.arity) c.index-relations-relation.is)
    ∙ sym g
    ∙ ap (λ (x : List Declared). slice_index (arities x) i) c.relations.ensures.value
