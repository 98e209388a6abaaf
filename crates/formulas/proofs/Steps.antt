-- Steps on what is read so far, each from what is known of its parts.
use Rattle.std.proofs.Common.{◌≡◌, ℕ, ◌-◌, true, false, ltb, List, [], ◌∷◌, ◌++◌, map, length, get_or, take as front, Some, None, Ok, Err, Result, MatchResult, Vec, sym, refl, ap, ◌∙◌}
use Rattle.std.proofs.lemmas.List.{length-map, take-map, map_push}
use Rattle.std.proofs.lemmas.Bool.{cond-true, cond-false}
use Rattle.faults.specs.declared.Fault.{Fault}
use Rattle.faults.specs.declared.Fault.TheVariants.{NameUnknown, OverLimit}
use Rattle.names.specs.declared.name.Name.{Name}
use Rattle.names.specs.Names.{spelling}
use Rattle.names.specs.Lookups.{index_of}
use Rattle.problem.specs.declared.node.Node.{Node}
use Rattle.problem.specs.declared.node.Node.TheVariants as node
use Rattle.problem.specs.declared.sort.Sort.{Sort}
use Rattle.problem.specs.declared.sort.Kind.{Kind}
use Rattle.problem.specs.declared.sort.Misfit.{Misfit}
use Rattle.problem.specs.Sorts.{placed}
use Rattle.relations.specs.Declarations.{atoms_of, relations_of}
use Rattle.problem.specs.Drafts.{nodes_of, sorts_of, Put, NotPut, Kept}
use Rattle.formulas.specs.declared.sketch.Sketch.{Sketch}
use Rattle.formulas.specs.Bodies.{Body, body, name_of_variable}
use Rattle.tokens.specs.Outcomes.{changes, changed, unfit}
use Rattle.formulas.specs.Outcomes.{arities_of, names_of, misfitting, placing, putting, meant, as_variable, as_relation, resolved, scoped, bound, unbound}

-- a function of two, from equal parts
pub both : {X Y Z : Type 0} (f : X → Y → Z) {a b : X} {c d : Y} → a ≡ b → c ≡ d → f a c ≡ f b d
both f {a} {b} {c} {d} p q = ap (λ x. f x c) p ∙ ap (λ y. f b y) q

-- as many as a Vec has
pub mapped_len : {X Y Z : Type 0} (f : X → Y) (v : Vec X Z) → length (map f v.items) ≡ v.len
mapped_len f v = length-map v.items f ∙ sym v.ok.0

-- all but the last, name by name
pub mapped_front : {X Y Z : Type 0} (f : X → Y) (v : Vec X Z) (xs : List X) → xs ≡ front (v.len - 1) v.items → map f xs ≡ front (length (map f v.items) - 1) (map f v.items)
mapped_front f v xs e = ap (map f) e ∙ sym (take-map f (v.len - 1) v.items) ∙ ap (λ n. front (n - 1) (map f v.items)) (sym (mapped_len f v))

-- one variable fewer
pub unbinding : (s t : Sketch) → t.draft ≡ s.draft → t.parts ≡ s.parts → t.scope.items ≡ front (s.scope.len - 1) s.scope.items → body t ≡ unbound (body s)
unfolding body unbound
unbinding s t d p e =
    let xs = mapped_front name_of_variable s.scope t.scope.items e in
    λ j. record {
      atoms = atoms_of (d j).signature.declared;
      relations = relations_of (d j).signature.declared;
      horizon = (d j).signature.horizon;
      nodes = nodes_of (d j);
      sorts = sorts_of (d j);
      scope = xs j;
      parts = p j;
    }

-- one variable more
bound_more : (x : List ℕ) (p n : ℕ) (xs : List (List ℕ)) (b : Body) → n ≡ length b.scope → ltb n 4 ≡ true → xs ≡ b.scope ++ x ∷ [] → changed n (scoped xs b) ≡ bound x p b
unfolding bound
bound_more x p n xs b e h s =
    both (λ m ys. changed m (scoped ys b)) e s
    ∙ sym (cond-true (ltb (length b.scope) 4) (changed (length b.scope) (scoped (b.scope ++ x ∷ []) b)) (unfit (OverLimit p)) (ap (λ m. ltb m 4) (sym e) ∙ h))

pub binding : (x : Name) (p n : ℕ) (s t : Sketch) → n ≡ s.scope.len → ltb n 4 ≡ true → t.draft ≡ s.draft → t.parts ≡ s.parts → t.scope.items ≡ s.scope.items ++ record { name = x } ∷ [] → changed n (body t) ≡ bound (spelling x) p (body s)
unfolding body
binding x p n s t e h d q i =
    (λ j. changed n (record {
      atoms = atoms_of (d j).signature.declared;
      relations = relations_of (d j).signature.declared;
      horizon = (d j).signature.horizon;
      nodes = nodes_of (d j);
      sorts = sorts_of (d j);
      scope = map name_of_variable t.scope.items;
      parts = q j;
    }))
    ∙ bound_more (spelling x) p n (map name_of_variable t.scope.items) (body s) (e ∙ sym (mapped_len name_of_variable s.scope)) h
    (ap (map name_of_variable) i ∙ map_push name_of_variable s.scope.items (record { name = x }))

-- none more
pub not_binding : (x : List ℕ) (p n : ℕ) (f : Fault) (s : Sketch) → n ≡ s.scope.len → ltb n 4 ≡ false → f ≡ OverLimit p → unfit f ≡ bound x p (body s)
unfolding body bound
not_binding x p n f s e h g =
    let m = e ∙ sym (mapped_len name_of_variable s.scope) in
    ap unfit g
    ∙ sym (cond-false (ltb (length (body s).scope) 4) (changed (length (body s).scope) (scoped ((body s).scope ++ x ∷ []) (body s))) (unfit (OverLimit p)) (ap (λ k. ltb k 4) (sym m) ∙ h))

-- what a name stands for
pub resolved_variable : (x : List ℕ) (p v : ℕ) (b : Body) → Some v ≡ index_of x b.scope → Ok (meant (node.Variable v) 1) ≡ resolved x p b
unfolding resolved
resolved_variable x p v b e = ap (λ o. as_variable o x p b) e

pub resolved_relation : (x : List ℕ) (p r a : ℕ) (b : Body) → None ≡ index_of x b.scope → Some r ≡ index_of x (names_of b) → a ≡ get_or (arities_of b) r 0 → Ok (meant (node.Relation r) a) ≡ resolved x p b
unfolding resolved
resolved_relation x p r a b n e h = ap (λ (m : ℕ). Ok (meant (node.Relation r) m)) h ∙ ap (λ o. as_relation o p b) e ∙ ap (λ o. as_variable o x p b) n

pub resolved_nothing : (x : List ℕ) (p : ℕ) (b : Body) → None ≡ index_of x b.scope → None ≡ index_of x (names_of b) → Err (NameUnknown p) ≡ resolved x p b
unfolding resolved
resolved_nothing x p b n e = ap (λ o. as_relation o p b) e ∙ ap (λ o. as_variable o x p b) n

-- a node that does not fit
pub put_unfit : (k : Kind) (n : Node) (p m : ℕ) (u : Misfit) (f : Fault) (b : Body) → m ≡ length b.scope → placed (arities_of b) b.sorts k m n ≡ Err u → f ≡ misfitting u p → unfit f ≡ putting k n p b
unfolding putting
put_unfit k n p m u f b l e h =
    ap unfit h
    ∙ ap (λ r. placing r n p b) (sym e)
    ∙ ap (λ i. placing (placed (arities_of b) b.sorts k i n) n p b) l

-- what a node that fits leaves
pub record Grown (n : Node) (s : Sort) (b a : Body) : Type 0 where
  pub atoms : a.atoms ≡ b.atoms
  pub relations : a.relations ≡ b.relations
  pub horizon : a.horizon ≡ b.horizon
  pub nodes : a.nodes ≡ b.nodes ++ n ∷ []
  pub sorts : a.sorts ≡ b.sorts ++ s ∷ []
  pub scope : a.scope ≡ b.scope
  pub parts : a.parts ≡ b.parts

pub put_fits : (k : Kind) (n : Node) (p m i : ℕ) (s : Sort) (b a : Body) → m ≡ length b.scope → placed (arities_of b) b.sorts k m n ≡ Ok s → i ≡ length b.nodes → Grown n s b a → changed i a ≡ putting k n p b
unfolding putting
put_fits k n p m i s b a l e h g =
    (λ j. changed (h j) (record { atoms = g.atoms j; relations = g.relations j; horizon = g.horizon j; nodes = g.nodes j; sorts = g.sorts j; scope = g.scope j; parts = g.parts j }))
    ∙ ap (λ r. placing r n p b) (sym e)
    ∙ ap (λ i. placing (placed (arities_of b) b.sorts k i n) n p b) l

-- what comes of a node, as the draft answers
pub put_told : (k : Kind) (n : Node) (p m : ℕ) (r : Result ℕ Misfit) (q : Result ℕ Fault) (s t : Sketch) →
    MatchResult r (λ i. q ≡ Ok i) (λ u. q ≡ Err (misfitting u p)) →
    MatchResult r (λ i. Put k m n s.draft t.draft i) (λ u. NotPut k m n s.draft t.draft u) →
    Kept s.draft t.draft → m ≡ s.scope.len → t.scope.items ≡ s.scope.items → t.parts ≡ s.parts → changes q (body t) ≡ putting k n p (body s)
unfolding body
put_told k n p m (Ok i) q s t h g kept e c d =
    let bound : m ≡ length (map name_of_variable s.scope.items) = e ∙ sym (mapped_len name_of_variable s.scope) in
    ap (λ r. changes r (body t)) h
    ∙ put_fits k n p m i g.sort (body s) (body t) bound g.fits g.index
    (record { atoms = kept.atoms; relations = kept.relations; horizon = kept.horizon; nodes = g.nodes; sorts = g.sorts; scope = ap (map name_of_variable) c; parts = d })
put_told k n p m (Err u) q s t h g kept e c d =
    let bound : m ≡ length (map name_of_variable s.scope.items) = e ∙ sym (mapped_len name_of_variable s.scope) in
    ap (λ r. changes r (body t)) h ∙ put_unfit k n p m u (misfitting u p) (body s) bound g.unfit refl
