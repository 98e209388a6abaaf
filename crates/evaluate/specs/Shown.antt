-- What is worked out for the nodes of a problem on the endless path of a table. Assumes nothing.
use Rattle.std.specs.Prelude.{◌≡◌, ℕ, ◌<◌, List}
use Rattle.lasso.specs.declared.value.Value.{Value}
use Rattle.lasso.specs.declared.value.Value.TheVariants.{No, Yes}
use Rattle.lasso.specs.Values.{not, smaller, greater}
use Rattle.lasso.specs.Lassos.{state_at}
use Rattle.problem.specs.declared.node.Quantifier.{Quantifier}
use Rattle.problem.specs.declared.node.Quantifier.TheVariants as quantifier
use Rattle.problem.specs.declared.problem.Problem.{Problem}
use Rattle.problem.specs.Problems.{nodes_in}
use Rattle.meaning.specs.Tuples.{tuples}
use Rattle.meaning.specs.Formulas.{Expr, arity, Formula}
use Rattle.meaning.specs.Trees.{expr_tree, formula_tree, places_in}
use Rattle.meaning.specs.Expressions.{expr_table}
use Rattle.meaning.specs.Evaluation.{formula_row}
use Rattle.meaning.specs.Rows.{Row}
use Rattle.table.specs.declared.table.Table.{Table}
use Rattle.table.specs.Tables.{path_of}
use Rattle.tuples.specs.declared.tuples.Tuples.{Tuples}
use Rattle.tuples.specs.Tabled.{table_of}
use Rattle.rows.specs.declared.window.Window.{Window}

abbrev pub expr_in : Problem → ℕ → Expr
expr_in p i = expr_tree (places_in p) (nodes_in p) i

abbrev pub formula_at : Problem → ℕ → Formula
formula_at p i = formula_tree (places_in p) (nodes_in p) i

-- at each instant of a state, a set of tuples has the values of an expression over n atoms
pub record ExpressionIs (n : ℕ) (p : Problem) (t : Table) (e : List ℕ) (node state : ℕ) (r : Tuples) : Type 0 where
  pub atoms : r.arity ≡ arity (expr_in p node)
  pub value : (i : ℕ) → state_at t.shape.states t.shape.loop_start i ≡ state → (q : ℕ) → q < tuples n (arity (expr_in p node)) → table_of r q ≡ expr_table n (path_of t) (expr_in p node) e i q

-- the values of a formula over n atoms at each instant
abbrev pub row_of : ℕ → Window → Problem → Table → List ℕ → ℕ → Row
row_of n w p t e node = formula_row n w.instants w.period (path_of t) (formula_at p node) e

-- what a quantifier says of no atom, and of one atom more, whose value in the domain is d and whose formula has the value f
abbrev pub of_none : Quantifier → Value
of_none quantifier.All = Yes
of_none quantifier.Some = No

abbrev pub gathered : Quantifier → Value → Value → Value → Value
gathered quantifier.All v d f = smaller v (greater (not d) f)
gathered quantifier.Some v d f = greater v (smaller d f)
