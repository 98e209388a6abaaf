-- The row of a formula over a window of w instants, of which the last p come again for ever. Assumes nothing.
use Rattle.std.specs.Prelude.{ℕ, List, slice_set}
use Rattle.meaning.specs.Tuples.{tuples}
use Rattle.meaning.specs.Formulas.{arity, Formula, tested, compared, prefixed, joined, quantified}
use Rattle.meaning.specs.Meaning.{Path}
use Rattle.meaning.specs.Tables.{tested_value, compared_value, quantified_value}
use Rattle.meaning.specs.Expressions.{expr_table}
use Rattle.meaning.specs.Rows.{Row, prefixed_row, joined_row}

abbrev pub formula_row : ℕ → ℕ → ℕ → Path → Formula → List ℕ → Row
formula_row n w p π (tested q a) e i = tested_value q (tuples n (arity a)) (expr_table n π a e i)
formula_row n w p π (compared c a b) e i = compared_value c (tuples n (arity a)) (expr_table n π a e i) (expr_table n π b e i)
formula_row n w p π (prefixed x f) e i = prefixed_row w p x (formula_row n w p π f e) i
formula_row n w p π (joined x f g) e i = joined_row w p x (formula_row n w p π f e) (formula_row n w p π g e) i
formula_row n w p π (quantified q x a f) e i = quantified_value q n (expr_table n π a e i) (λ b. formula_row n w p π f (slice_set e x b) i)
