-- What a problem holds, and the fresh problem, for src/problem. Assumes nothing.
use Rattle.std.specs.Prelude.{◌≡◌, ℕ, List, [], ◌∷◌, length}
use Rattle.problem.specs.declared.node.Node.{Node}
use Rattle.problem.specs.declared.node.Node.TheVariants as node
use Rattle.problem.specs.declared.node.Constant.TheVariants as constant
use Rattle.problem.specs.declared.node.Test.TheVariants as test
use Rattle.problem.specs.declared.sort.Sort.{Sort}
use Rattle.relations.specs.declared.declarations.Declarations.{Declarations}
use Rattle.problem.specs.declared.draft.Draft.{Draft}
use Rattle.problem.specs.declared.problem.Problem.{Problem}
use Rattle.relations.specs.Relations.{Declared}
use Rattle.relations.specs.Declarations.{atoms_of, relations_of}
use Rattle.relations.specs.Free.{sizes}
use Rattle.problem.specs.Drafts.{nodes_of, sorts_of}
use Rattle.problem.specs.Sorts.{expression, formula}

abbrev pub atoms_in : Problem → List (List ℕ)
atoms_in p = atoms_of p.draft.signature.declared

abbrev pub relations_in : Problem → List Declared
relations_in p = relations_of p.draft.signature.declared

-- how many tuples each relation may have
abbrev pub sizes_in : Problem → List ℕ
sizes_in p = sizes (length (atoms_in p)) (relations_in p)

abbrev pub horizon_of : Problem → ℕ
horizon_of p = p.draft.signature.horizon

abbrev pub nodes_in : Problem → List Node
nodes_in p = nodes_of p.draft

abbrev pub sorts_in : Problem → List Sort
sorts_in p = sorts_of p.draft

-- the formula `no none`, and what its nodes are
abbrev pub no_none : List Node
no_none = node.Constant constant.None ∷ node.Tested test.No 0 ∷ []

abbrev pub no_none_sorts : List Sort
no_none_sorts = expression 1 0 ∷ formula 0 0 ∷ []

-- the formula `no none` over the signature of a draft
pub record Filled (d : Draft) (p : Problem) : Type 0 where
  pub signature : p.draft.signature ≡ d.signature
  pub nodes : nodes_in p ≡ no_none
  pub sorts : sorts_in p ≡ no_none_sorts

-- the atom `a` and no relation
pub record OneAtom (d : Declarations) : Type 0 where
  pub atoms : atoms_of d ≡ (97 ∷ []) ∷ []
  pub relations : relations_of d ≡ []

-- one atom `a`, no relation, one state, and the formula `no none`
pub record Fresh (p : Problem) : Type 0 where
  pub atoms : atoms_in p ≡ (97 ∷ []) ∷ []
  pub relations : relations_in p ≡ []
  pub horizon : horizon_of p ≡ 1
  pub nodes : nodes_in p ≡ no_none
  pub sorts : sorts_in p ≡ no_none_sorts
