use Rattle.std.proofs.Common.{◌≡◌, ℕ, ◌<◌, Err, Option, List, map, length, get_or, Some, None, sym, ap, ◌∙◌, arith}
use Rattle.std.specs.Option.{ok_or}
use Rattle.std.proofs.lemmas.List.{length-map}
use Rattle.std.proofs.lemmas.Option.{MatchOption-at_some}
use Rattle.std.proofs.lemmas.Result.{err_from_is_err_and}
use Rattle.faults.specs.declared.Fault.TheVariants.{NameUnknown}
use Rattle.names.specs.Names.{spelling}
use Rattle.names.specs.Lookups.{index_of}
use Rattle.relations.specs.Relations.{Declared, arity_number, relation_name}
use Rattle.relations.specs.Declarations.{relations_of, declared_name, declared_arity}
use Rattle.formulas.specs.Bodies.{body, name_of_variable}
use Rattle.formulas.specs.Outcomes.{names_of, arities_of}
use Rattle.formulas.proofs.Steps.{both, resolved_variable, resolved_relation, resolved_nothing}
use Rattle.formulas.proofs.Knowing.{through, arity_at}
use Rattle.formulas.proofs.sketch.Sketch.resolve.Goals as goal

pub returns-in-Some : goal.returns-in-Some
unfolding body
returns-in-Some c =
    resolved_variable (spelling c.args.placed.name) c.args.placed.place c.in-Some.variable (body c.args.self.now)
    (c.in-Some.ensures.value ∙ both (λ x vs. index_of x (map name_of_variable vs)) c.as_bytes.ensures c.as_slice.ensures.value)

pub offset_bounds-relations-relation : goal.offset_bounds-relations-relation
offset_bounds-relations-relation c =
    let found : c.lookup-2.result ≡ Some c.in_ok-relation.relation = grind (arith, c.ok_or.ensures.value, c.in_ok-relation.was) in
    omega (arith, (MatchOption-at_some _ _ c.in_ok-relation.relation found c.lookup-2.ensures.first).inside, length-map c.relations-relations.result.now relation_name, c.relations-relations.ensures.few)

pub bounds-relations-relation : goal.bounds-relations-relation
bounds-relations-relation c =
    let found : c.lookup-2.result ≡ Some c.in_ok-relation.relation = grind (arith, c.ok_or.ensures.value, c.in_ok-relation.was) in
    omega (arith, (MatchOption-at_some _ _ c.in_ok-relation.relation found c.lookup-2.ensures.first).inside, length-map c.relations-relations.result.now relation_name)

pub returns : goal.returns
unfolding body
returns c =
    let s = c.args.self.now in
    let x = spelling c.args.placed.name in
    let i = c.in_ok-relation.relation in
    let rs = c.relations-relations.result.now in
    let found : c.lookup-2.result ≡ Some i = grind (arith, c.ok_or.ensures.value, c.in_ok-relation.was) in
    let inside : i < length rs = omega (arith, (MatchOption-at_some _ _ i found c.lookup-2.ensures.first).inside, length-map rs relation_name) in
    let variable : None ≡ index_of x (body s).scope = c.in_default.ensures.value ∙ both (λ x vs. index_of x (map name_of_variable vs)) c.as_bytes.ensures c.as_slice.ensures.value in
    let names : map relation_name rs ≡ names_of (body s) = through (λ d. map declared_name (relations_of d)) s.draft c.signature.result.now c.declared.result.now _ c.relations-relations.ensures.names c.declared.ensures c.signature.ensures in
    let relation : Some i ≡ index_of x (names_of (body s)) = sym found ∙ c.lookup-2.ensures.value ∙ both index_of c.as_bytes-2.ensures names in
    let declared = through relations_of s.draft c.signature.result.now c.declared.result.now _ c.relations-relations.ensures.value c.declared.ensures c.signature.ensures in
    let arity : c.number.result ≡ get_or (arities_of (body s)) i 0 = arity_at rs i c.number.result c.index-relations-relation.result inside c.index-relations-relation.is (c.number.ensures ∙ ap arity_number c.arity.ensures) ∙ ap (λ (ds : List Declared). get_or (map declared_arity ds) i 0) declared in
    resolved_relation x c.args.placed.place i c.number.result (body s) variable relation arity

pub returns-in_err-relation : goal.returns-in_err-relation
unfolding body
returns-in_err-relation c =
    let s = c.args.self.now in
    let x = spelling c.args.placed.name in
    let rs = c.relations-relations.result.now in
    let p = err_from_is_err_and c.from_residual.result c.from_residual.ensures.1 in
    let none : c.lookup-2.result ≡ None = grind (arith, c.ok_or.ensures.value, c.in_err-relation.was) in
    let variable : None ≡ index_of x (body s).scope = c.in_default.ensures.value ∙ both (λ x vs. index_of x (map name_of_variable vs)) c.as_bytes.ensures c.as_slice.ensures.value in
    let names : map relation_name rs ≡ names_of (body s) = through (λ d. map declared_name (relations_of d)) s.draft c.signature.result.now c.declared.result.now _ c.relations-relations.ensures.names c.declared.ensures c.signature.ensures in
    let relation : None ≡ index_of x (names_of (body s)) = sym none ∙ c.lookup-2.ensures.value ∙ both index_of c.as_bytes-2.ensures names in
    let told = sym c.in_err-relation.was ∙ c.ok_or.ensures.value ∙ ap (λ (o : Option ℕ). ok_or o (NameUnknown c.args.placed.place)) none in
    let fault : c.in_err-relation.field-0.0 ≡ NameUnknown c.args.placed.place = cc told in
    rw (p.1, p.2) (ap Err fault ∙ resolved_nothing x c.args.placed.place (body s) variable relation)
