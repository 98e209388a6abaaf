-- What is worked out for the nodes of a problem, by what its formula is evaluated by. Assumes nothing.
use Rattle.std.specs.Prelude.{ℕ, List}
use Rattle.meaning.specs.Tables.{Table}
use Rattle.meaning.specs.Expressions.{expr_table}
use Rattle.meaning.specs.Rows.{Row}
use Rattle.table.specs.Tables.{path_of}
use Rattle.tuples.specs.declared.tuples.Tuples.{Tuples}
use Rattle.evaluate.specs.declared.setting.Setting.{Setting}
use Rattle.evaluate.specs.Shown.{expr_in, ExpressionIs, row_of}

-- a set of tuples has the values of an expression in a state
abbrev pub ExpressionAt : Setting → List ℕ → ℕ → ℕ → Tuples → Type 0
ExpressionAt s e node state r = ExpressionIs s.atoms.count s.problem.now s.table.now e node state r

-- the values of an expression at an instant
abbrev pub table_of_node : Setting → List ℕ → ℕ → ℕ → Table
table_of_node s e node i = expr_table s.atoms.count (path_of s.table.now) (expr_in s.problem.now node) e i

-- the values of a formula at each instant
abbrev pub row_at : Setting → List ℕ → ℕ → Row
row_at s e node = row_of s.atoms.count s.window s.problem.now s.table.now e node
