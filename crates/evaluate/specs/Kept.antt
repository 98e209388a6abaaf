-- What is worked out once for the formulas that use no variable. Assumes nothing.
use Rattle.std.specs.Prelude.{◌≡◌, ℕ, List, Option, None, Some, length, slice_index_or}
use Rattle.problem.specs.declared.problem.Problem.{Problem}
use Rattle.meaning.specs.Rows.{RowIs}
use Rattle.rows.specs.declared.row.Row.{Row}
use Rattle.rows.specs.declared.window.Window.{Window}
use Rattle.table.specs.declared.table.Table.{Table}
use Rattle.evaluate.specs.Shown.{row_of}

-- a row is that of a formula over n atoms, whatever the four variables are bound to
abbrev pub RowKept : ℕ → Window → Problem → Table → ℕ → Row → Type 0
RowKept n w p t j r = (e : List ℕ) → length e ≡ 4 → RowIs w.instants r.values (row_of n w p t e j)

-- whatever is kept of a node is right
abbrev pub KeptIs : ℕ → Window → Problem → Table → List (Option Row) → Type 0
KeptIs n w p t ks = (j : ℕ) (r : Row) → slice_index_or ks j None ≡ Some r → RowKept n w p t j r
