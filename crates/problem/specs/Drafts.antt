-- What a draft holds, and what comes of one node more, for src/draft. Assumes nothing.
use Rattle.std.specs.Prelude.{◌≡◌, ℕ, ◌+◌, ◌<◌, ◌≤◌, true, List, [], ◌∷◌, ◌++◌, map, length, Ok, Err, vec_items}
use Rattle.problem.specs.declared.node.Node.{Node}
use Rattle.problem.specs.declared.sort.Sort.{Sort}
use Rattle.problem.specs.declared.sort.Kind.{Kind}
use Rattle.problem.specs.declared.sort.Misfit.{Misfit}
use Rattle.relations.specs.declared.signature.Signature.{Signature}
use Rattle.problem.specs.declared.draft.Draft.{Draft}
use Rattle.relations.specs.Declarations.{atoms_of, relations_of, arities}
use Rattle.problem.specs.Sorts.{most_parts, part_node, part_sort, sort_bound, judge, placed, of_kind, arity_of_kind, sort_at, bound_at}

abbrev pub nodes_of : Draft → List Node
nodes_of d = map part_node (vec_items d.parts)

abbrev pub sorts_of : Draft → List Sort
sorts_of d = map part_sort (vec_items d.parts)

-- the arities of the relations
abbrev pub arities_of : Draft → List ℕ
arities_of d = arities (relations_of d.signature.declared)

-- no node yet, over a signature
pub record Begun (s : Signature) (d : Draft) : Type 0 where
  pub signature : d.signature ≡ s
  pub nodes : nodes_of d ≡ []
  pub sorts : sorts_of d ≡ []

-- one node more
pub record Put (kind : Kind) (bound : ℕ) (n : Node) (before after : Draft) (i : ℕ) : Type 0 where
  pub sort : Sort
  pub fits : placed (arities_of before) (sorts_of before) kind bound n ≡ Ok sort
  pub index : i ≡ length (nodes_of before)
  pub nodes : nodes_of after ≡ nodes_of before ++ n ∷ []
  pub sorts : sorts_of after ≡ sorts_of before ++ sort ∷ []

-- the node does not fit, and nothing altered
pub record NotPut (kind : Kind) (bound : ℕ) (n : Node) (before after : Draft) (m : Misfit) : Type 0 where
  pub unfit : placed (arities_of before) (sorts_of before) kind bound n ≡ Err m
  pub nodes : nodes_of after ≡ nodes_of before
  pub sorts : sorts_of after ≡ sorts_of before

-- the signature is the same
pub record Kept (before after : Draft) : Type 0 where
  pub signature : after.signature ≡ before.signature
  pub atoms : atoms_of after.signature.declared ≡ atoms_of before.signature.declared
  pub relations : relations_of after.signature.declared ≡ relations_of before.signature.declared
  pub horizon : after.signature.horizon ≡ before.signature.horizon

-- the last node is of a kind, has an arity of that kind, and uses at most so many variables
pub record Last (kind : Kind) (bound : ℕ) (after : Draft) (i : ℕ) : Type 0 where
  pub index : i + 1 ≡ length (nodes_of after)
  pub is_of_kind : of_kind kind (sort_at (sorts_of after) i) ≡ true
  pub arity : arity_of_kind kind (sort_at (sorts_of after) i) ≡ true
  pub few : bound_at (sorts_of after) i ≤ bound

-- what a node would be, where it fits
pub record Placed (kind : Kind) (bound : ℕ) (n : Node) (d : Draft) (s : Sort) : Type 0 where
  pub room : length (sorts_of d) < most_parts
  pub judged : judge (arities_of d) (sorts_of d) n ≡ Ok s
  pub is_of_kind : of_kind kind s ≡ true
  pub few : sort_bound s ≤ bound

-- one node more, of that sort
pub record Added (kind : Kind) (bound : ℕ) (n : Node) (s : Sort) (before after : Draft) (i : ℕ) : Type 0 where
  pub index : i ≡ length (nodes_of before)
  pub nodes : nodes_of after ≡ nodes_of before ++ n ∷ []
  pub sorts : sorts_of after ≡ sorts_of before ++ s ∷ []
  pub kept : Kept before after
  pub last : Last kind bound after i
