-- Laws of the trees that nodes stand for, each over all problems. Assumes nothing.
use Rattle.std.specs.Prelude.{◌≡◌, ℕ, ◌<◌, ◌≤◌, true, List, length}
use Rattle.problem.specs.declared.sort.Sort.{Sort}
use Rattle.problem.specs.declared.problem.Problem.{Problem}
use Rattle.problem.specs.Sorts.{most_past, sort_past, is_expression, sort_at, arity_at}
use Rattle.problem.specs.Problems.{nodes_in, sorts_in}
use Rattle.meaning.specs.Formulas.{arity, depth}
use Rattle.meaning.specs.Trees.{expr_tree, formula_tree, places_in}

-- how deep in the past a node is
abbrev pub past_at : List Sort → ℕ → ℕ
past_at ss i = sort_past (sort_at ss i)

-- an expression has an arity, the tree of an expression has its sort's arity, and that of a formula its sort's past, which is not too deep
pub record NodesStand : Type 0 where
  pub some : (p : Problem) (i : ℕ) → i < length (nodes_in p) → is_expression (sort_at (sorts_in p) i) ≡ true → 0 < arity_at (sorts_in p) i
  pub arities : (p : Problem) (i : ℕ) → i < length (nodes_in p) → is_expression (sort_at (sorts_in p) i) ≡ true → arity (expr_tree (places_in p) (nodes_in p) i) ≡ arity_at (sorts_in p) i
  pub depths : (p : Problem) (i : ℕ) → i < length (nodes_in p) → arity_at (sorts_in p) i ≡ 0 → depth (formula_tree (places_in p) (nodes_in p) i) ≡ past_at (sorts_in p) i
  pub shallow : (p : Problem) (i : ℕ) → i < length (nodes_in p) → past_at (sorts_in p) i ≤ most_past
