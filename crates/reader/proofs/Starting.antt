-- What is known at the start of a text, and at the start and the end of its formula.
use Rattle.std.proofs.Common.{◌≡◌, ℕ, [], length, map, reverse, Ok, Err, Result, IfOk, refl, sym, ap, ◌∙◌}
use Rattle.std.proofs.lemmas.List.{nil_from_length}
use Rattle.faults.specs.declared.Fault.{Fault}
use Rattle.relations.specs.declared.declarations.Declarations.{Declarations}
use Rattle.relations.specs.declared.signature.Signature.{Signature}
use Rattle.problem.specs.declared.draft.Draft.{Draft}
use Rattle.relations.specs.Declarations.{atoms_of, relations_of}
use Rattle.problem.specs.declared.problem.Problem.{Problem}
use Rattle.problem.specs.Drafts.{Begun, nodes_of, sorts_of}
use Rattle.problem.specs.Sorts.{Whole}
use Rattle.tokens.specs.Cursors.{Cursor}
use Rattle.stack.specs.declared.stack.Stack.{Stack}
use Rattle.stack.specs.Stacks.{entries}
use Rattle.formulas.specs.declared.sketch.Bracket.{Bracket}
use Rattle.formulas.specs.declared.sketch.Sketch.{Sketch}
use Rattle.formulas.specs.Bodies.{Body, Open, body, begun, opens, place_of_bracket}
use Rattle.formulas.specs.Outcomes as formulas
use Rattle.formulas.specs.Formulas.{formula}
use Rattle.formulas.proofs.Wholes.{formula_whole}
use Rattle.declaring.specs.Known.{known, framed}
use Rattle.tokens.specs.Outcomes.{told}
use Rattle.reader.specs.Reading.{Contents, contents, contents_of, nothing_known, unread, no_bracket, formula_only}

pub nothing_is_known : (d : Declarations) → length (atoms_of d) ≡ 0 → length (relations_of d) ≡ 0 → known d ≡ nothing_known
unfolding known
nothing_is_known d p q =
    let a : atoms_of d ≡ [] = nil_from_length _ p in
    let r : relations_of d ≡ [] = nil_from_length _ q in
    λ j. record { atoms = a j; relations = r j }

pub begun_unread : (s : Signature) (d : Draft) → Begun s d → begun d ≡ unread (framed s)
unfolding begun unread framed
begun_unread s d b =
    λ j. record {
      atoms = atoms_of (b.signature j).declared;
      relations = relations_of (b.signature j).declared;
      horizon = (b.signature j).horizon;
      nodes = b.nodes j;
      sorts = b.sorts j;
      scope = [];
      parts = 0;
    }

opens_none : (s : Stack Bracket) → entries s ≡ [] → length s.items.now ≡ 32 → opens s ≡ no_bracket
unfolding opens
opens_none s e n = λ j. record { limit = n j; places = map place_of_bracket (reverse (e j)) }

only_told : (r : Result ℕ Fault) (c : Cursor) (b : Body) (o : Open) → formula_only (formulas.told r c b o) ≡ told r c b
only_told (Ok i) c b o = refl
only_told (Err f) c b o = refl

pub read_alone : (n : ℕ) (r : Result ℕ Fault) (c d : Cursor) (b a : Body) (o : Open) (s : Stack Bracket) → entries s ≡ [] → length s.items.now ≡ 32 → formulas.told r d a o ≡ formula n c b (opens s) → told r d a ≡ formula_only (formula n c b no_bracket)
read_alone n r c d b a o s e l h = sym (only_told r d a o) ∙ ap formula_only (h ∙ ap (λ (p : Open). formula n c b p) (opens_none s e l))

pub begun_scope : (d : Draft) → (begun d).scope ≡ []
unfolding begun
begun_scope d = refl

-- what was read is whole
pub told_whole : (n : ℕ) (r : Result ℕ Fault) (c d : Cursor) (s t : Sketch) (o q : Open) → (body s).scope ≡ [] → formulas.told r d (body t) q ≡ formula n c (body s) o → IfOk r (λ _. Whole (sorts_of t.draft))
unfolding body
told_whole n (Ok i) c d s t o q e h = formula_whole n c (body s) o i d (body t) q e (sym h)
told_whole n (Err f) c d s t o q e h = tt

-- the problem of a sketch's draft holds what was read
pub held_whole : (p : Problem) (d : Draft) (s : Sketch) → p.draft ≡ d → d ≡ s.draft → contents p ≡ contents_of (body s)
unfolding body
held_whole p d s e h =
    let held : Draft → Contents = λ q. record { atoms = atoms_of q.signature.declared; relations = relations_of q.signature.declared; horizon = q.signature.horizon; nodes = nodes_of q; sorts = sorts_of q } in
    ap held (e ∙ h)
