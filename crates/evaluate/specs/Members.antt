-- What is worked out once of a quantifier's domain. Assumes nothing.
use Rattle.std.specs.Prelude.{◌≡◌, ℕ, ◌<◌, List, [], slice_index_or}
use Rattle.lasso.specs.declared.value.Value.{Value}
use Rattle.lasso.specs.Lassos.{state_at}
use Rattle.problem.specs.declared.problem.Problem.{Problem}
use Rattle.meaning.specs.Tuples.{tuples}
use Rattle.meaning.specs.Formulas.{arity}
use Rattle.meaning.specs.Tables.{table_at}
use Rattle.meaning.specs.Expressions.{expr_table}
use Rattle.meaning.specs.Rows.{Row}
use Rattle.table.specs.declared.table.Table.{Table}
use Rattle.table.specs.Tables.{path_of}
use Rattle.evaluate.specs.Shown.{expr_in}

-- the value of a tuple in a state, by the values of each state
abbrev pub member_at : List (List Value) → ℕ → ℕ → Value
member_at vss s a = table_at (slice_index_or vss s []) a

-- a value is that of a row at each instant of a state
pub record ValueIn (t : Table) (state : ℕ) (v : Value) (row : Row) : Type 0 where
  pub value : (i : ℕ) → state_at t.shape.states t.shape.loop_start i ≡ state → v ≡ row i

-- at each instant of a state, a list has the first k values of an expression over n atoms
pub record FirstAre (k n : ℕ) (p : Problem) (t : Table) (e : List ℕ) (node state : ℕ) (vs : List Value) : Type 0 where
  pub value : (i q : ℕ) (beyond : Value) → state_at t.shape.states t.shape.loop_start i ≡ state → q < k → q < tuples n (arity (expr_in p node)) → slice_index_or vs q beyond ≡ expr_table n (path_of t) (expr_in p node) e i q

-- at each instant of a state, a list has the first 8 values of an expression over n atoms
abbrev pub MembersIn : ℕ → Problem → Table → List ℕ → ℕ → ℕ → List Value → Type 0
MembersIn n p t e j s vs =
    (i : ℕ) → state_at t.shape.states t.shape.loop_start i ≡ s → (a : ℕ) → a < 8 → a < tuples n (arity (expr_in p j)) → table_at vs a ≡ expr_table n (path_of t) (expr_in p j) e i a

-- in each of the first m states
abbrev pub MembersAre : ℕ → Problem → Table → List ℕ → ℕ → ℕ → List (List Value) → Type 0
MembersAre n p t e j m vss = (s : ℕ) → s < m → MembersIn n p t e j s (slice_index_or vss s [])
