-- The table of an expression at an instant. Assumes nothing.
use Rattle.std.specs.Prelude.{ℕ, ◌+◌, List, slice_index}
use Rattle.meaning.specs.Formulas.{Expr, relation, variable, constant, turned, next, combined, arity}
use Rattle.meaning.specs.Meaning.{Path}
use Rattle.meaning.specs.Tables.{Table, constant_table, variable_table, turned_table, combined_table}

abbrev pub expr_table : ℕ → Path → Expr → List ℕ → ℕ → Table
expr_table n π (relation b k) e i r = π i (b + r)
expr_table n π (variable x) e i r = variable_table (slice_index e x) r
expr_table n π (constant c) e i r = constant_table n c r
expr_table n π (turned s a) e i r = turned_table s n (expr_table n π a e i) r
expr_table n π (next a) e i r = expr_table n π a e (i + 1) r
expr_table n π (combined o a b) e i r = combined_table o n (arity b) (expr_table n π a e i) (expr_table n π b e i) r
