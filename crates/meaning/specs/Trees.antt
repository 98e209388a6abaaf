-- The trees that the nodes of a problem stand for. Assumes nothing.
use Rattle.std.specs.Prelude.{ℕ, zero, suc, ◌-◌, List, [], ◌∷◌, length, sum, take, slice_index}
use Rattle.problem.specs.declared.node.Node.{Node}
use Rattle.problem.specs.declared.node.Node.TheVariants as node
use Rattle.problem.specs.declared.node.Constant.TheVariants as constants
use Rattle.problem.specs.declared.node.Test.TheVariants as test
use Rattle.problem.specs.declared.problem.Problem.{Problem}
use Rattle.relations.specs.Declarations.{arities}
use Rattle.problem.specs.Sorts.{node_at}
use Rattle.problem.specs.Problems.{relations_in, sizes_in, nodes_in}
use Rattle.meaning.specs.Formulas.{Expr, relation, variable, constant, turned, next, combined, Formula, tested, compared, prefixed, joined, quantified}

-- how many tuples each relation may have, and its arity
pub record Places : Type 0 where
  pub sizes : List ℕ
  pub arities : List ℕ

abbrev pub relation_tree : Places → ℕ → Expr
relation_tree s r = relation (sum (take r s.sizes)) (slice_index s.arities r)

abbrev pub no_expr : Expr
no_expr = constant constants.None

abbrev pub no_formula : Formula
no_formula = tested test.Some no_expr

-- the expression of a node, given those of its parts; a node of another kind stands for none
abbrev pub expr_of : Places → (ℕ → Expr) → Node → Expr
expr_of s x (node.Relation r) = relation_tree s r
expr_of s x (node.Variable v) = variable v
expr_of s x (node.Constant c) = constant c
expr_of s x (node.Turned t a) = turned t (x a)
expr_of s x (node.Next a) = next (x a)
expr_of s x (node.Combined o a b) = combined o (x a) (x b)
expr_of s x (node.Tested q a) = no_expr
expr_of s x (node.Compared c a b) = no_expr
expr_of s x (node.Prefixed p a) = no_expr
expr_of s x (node.Joined w a b) = no_expr
expr_of s x (node.Quantified q v a b) = no_expr

-- the formula of a node, given what its parts stand for
abbrev pub formula_of : (ℕ → Expr) → (ℕ → Formula) → Node → Formula
formula_of x f (node.Relation r) = no_formula
formula_of x f (node.Variable v) = no_formula
formula_of x f (node.Constant c) = no_formula
formula_of x f (node.Turned t a) = no_formula
formula_of x f (node.Next a) = no_formula
formula_of x f (node.Combined o a b) = no_formula
formula_of x f (node.Tested q a) = tested q (x a)
formula_of x f (node.Compared c a b) = compared c (x a) (x b)
formula_of x f (node.Prefixed p a) = prefixed p (f a)
formula_of x f (node.Joined w a b) = joined w (f a) (f b)
formula_of x f (node.Quantified q v a b) = quantified q v (x a) (f b)

-- the trees of the node at i, followed at most so many levels deep
unfoldable pub expr_within : Places → List Node → ℕ → ℕ → Expr
expr_within s ns zero i = no_expr
expr_within s ns (suc m) i = expr_of s (expr_within s ns m) (node_at ns i)

unfoldable pub formula_within : Places → List Node → ℕ → ℕ → Formula
formula_within s ns zero i = no_formula
formula_within s ns (suc m) i = formula_of (expr_within s ns m) (formula_within s ns m) (node_at ns i)

-- the trees of the node at i: parts stand before the whole, so that no more levels are needed
unfoldable pub expr_tree : Places → List Node → ℕ → Expr
expr_tree s ns i = expr_within s ns (suc i) i

unfoldable pub formula_tree : Places → List Node → ℕ → Formula
formula_tree s ns i = formula_within s ns (suc i) i

abbrev pub places_in : Problem → Places
places_in p = record { sizes = sizes_in p; arities = arities (relations_in p) }

-- no variable is bound
abbrev pub no_variable : List ℕ
no_variable = 0 ∷ 0 ∷ 0 ∷ 0 ∷ []

-- the whole formula of a problem: that of its last node
unfoldable pub formula_in : Problem → Formula
formula_in p = formula_tree (places_in p) (nodes_in p) (length (nodes_in p) - 1)
