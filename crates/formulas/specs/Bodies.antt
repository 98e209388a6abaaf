-- What is read of a formula so far, as the definitions speak of it, for src/sketch and src/start. Assumes nothing.
use Rattle.std.specs.Prelude.{ℕ, List, [], map, reverse, vec_items}
use Rattle.names.specs.Names.{spelling}
use Rattle.problem.specs.declared.node.Node.{Node}
use Rattle.problem.specs.declared.sort.Sort.{Sort}
use Rattle.problem.specs.declared.draft.Draft.{Draft}
use Rattle.relations.specs.Relations.{Declared}
use Rattle.relations.specs.Declarations.{atoms_of, relations_of}
use Rattle.problem.specs.Drafts.{nodes_of, sorts_of}
use Rattle.stack.specs.declared.stack.Stack.{Stack}
use Rattle.stack.specs.Stacks.{entries, room}
use Rattle.formulas.specs.declared.start.Head.{Head}
use Rattle.formulas.specs.declared.start.Head.TheVariants as head
use Rattle.formulas.specs.declared.sketch.Variable.{Variable}
use Rattle.formulas.specs.declared.sketch.Bracket.{Bracket}
use Rattle.formulas.specs.declared.sketch.Sketch.{Sketch}
use Rattle.formulas.specs.Starts.{Head as HeadOf, h_name, h_constant, h_turn, h_open}

abbrev pub head_seen : Head → HeadOf
head_seen (head.Name n) = h_name (spelling n)
head_seen (head.Constant c) = h_constant c
head_seen (head.Turn t) = h_turn t
head_seen head.Open = h_open

-- what is declared, the nodes so far and what they are, the variables in scope, how many parts were counted
pub record Body : Type 0 where
  pub atoms : List (List ℕ)
  pub relations : List Declared
  pub horizon : ℕ
  pub nodes : List Node
  pub sorts : List Sort
  pub scope : List (List ℕ)
  pub parts : ℕ

abbrev pub name_of_variable : Variable → List ℕ
name_of_variable v = spelling v.name

unfoldable pub body : Sketch → Body
body s = record {
  atoms = atoms_of s.draft.signature.declared;
  relations = relations_of s.draft.signature.declared;
  horizon = s.draft.signature.horizon;
  nodes = nodes_of s.draft;
  sorts = sorts_of s.draft;
  scope = map name_of_variable (vec_items s.scope);
  parts = s.parts;
}

-- nothing is read yet over a draft
unfoldable pub begun : Draft → Body
begun d = record {
  atoms = atoms_of d.signature.declared;
  relations = relations_of d.signature.declared;
  horizon = d.signature.horizon;
  nodes = nodes_of d;
  sorts = sorts_of d;
  scope = [];
  parts = 0;
}

-- the brackets that are open, the latest first, and how many may be
pub record Open : Type 0 where
  pub limit : ℕ
  pub places : List ℕ

abbrev pub place_of_bracket : Bracket → ℕ
place_of_bracket b = b.place

unfoldable pub opens : Stack Bracket → Open
opens s = record { limit = room s; places = map place_of_bracket (reverse (entries s)) }
