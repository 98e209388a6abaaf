-- The table of a set of tuples. Assumes nothing.
use Rattle.std.specs.Prelude.{◌≡◌, ℕ, ◌<◌}
use Rattle.lasso.specs.declared.value.Value.{Value}
use Rattle.meaning.specs.Tuples.{tuples}
use Rattle.meaning.specs.Tables.{Table, table_at}
use Rattle.tuples.specs.declared.tuples.Tuples.{Tuples}

-- the values by the tuples' numbers: no beyond the last that a set has room for
abbrev pub table_of : Tuples → Table
table_of t = table_at t.values

-- tuples of k of n atoms, with the values of f
abbrev pub Tabled : ℕ → ℕ → Table → Tuples → Type 0
Tabled n k f t = (t.arity ≡ k) × ((r : ℕ) → r < tuples n k → table_of t r ≡ f r)

-- what the calls of a function give is the value of f
abbrev pub ValuesBy : (ℕ → Value → Type 0) → Table → Type 0
ValuesBy P f = (r : ℕ) (v : Value) → P r v → v ≡ f r
