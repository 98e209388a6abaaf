-- The laws of rows on the path of a lasso. Assumes nothing.
use Rattle.std.specs.Prelude.{ℕ, ◌+◌, ◌-◌, ◌*◌, ◌<◌, ◌≤◌, List}
use Rattle.lasso.specs.declared.value.Value.{Value}
use Rattle.lasso.specs.Lassos.{path}
use Rattle.problem.specs.declared.node.Prefix.{Prefix}
use Rattle.problem.specs.declared.node.Infix.{Infix}
use Rattle.meaning.specs.Formulas.{Formula, prefixed, joined, depth}
use Rattle.meaning.specs.Meaning.{Reaches}
use Rattle.meaning.specs.Rows.{Row, Shows, prefixed_row, joined_row}
use Rattle.meaning.specs.Evaluation.{formula_row}

-- the window for past depth d: the instants up to the end of the round that starts d rounds after the loop start
abbrev pub window : ℕ → ℕ → ℕ → ℕ
window k l d = l + (d + 1) * (k - l)

-- over a window that its past needs, a formula's row comes of the rows of its parts
pub record RowsRight : Type 0 where
  pub prefixed :
      (n k l : ℕ) (at : ℕ → ℕ → Value) → l < k → (d : ℕ) (x : Prefix) (f : Formula) (e : List ℕ) (a : Row) → depth f ≤ d →
      Shows (window k l d) (Reaches n (path k l at) f e) a →
      Shows (window k l d) (Reaches n (path k l at) (prefixed x f) e) (prefixed_row (window k l d) (k - l) x a)
  pub joined :
      (n k l : ℕ) (at : ℕ → ℕ → Value) → l < k → (d : ℕ) (x : Infix) (f g : Formula) (e : List ℕ) (a b : Row) → depth f ≤ d → depth g ≤ d →
      Shows (window k l d) (Reaches n (path k l at) f e) a →
      Shows (window k l d) (Reaches n (path k l at) g e) b →
      Shows (window k l d) (Reaches n (path k l at) (joined x f g) e) (joined_row (window k l d) (k - l) x a b)

-- and so the row of a formula has its values
abbrev pub FormulasStand : Type 0
FormulasStand =
    (n k l : ℕ) (at : ℕ → ℕ → Value) → l < k → (d : ℕ) (f : Formula) (e : List ℕ) → depth f ≤ d →
    Shows (window k l d) (Reaches n (path k l at) f e) (formula_row n (window k l d) (k - l) (path k l at) f e)
