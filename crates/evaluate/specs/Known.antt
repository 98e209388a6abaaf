-- What is worked out once for the expressions that use no variable. Assumes nothing.
use Rattle.std.specs.Prelude.{◌≡◌, ℕ, ◌*◌, ◌<◌, ◌≤◌, List, Option, None, Some, true, length, slice_index_or}
use Rattle.lasso.specs.Lassos.{state_at}
use Rattle.problem.specs.declared.problem.Problem.{Problem}
use Rattle.problem.specs.Sorts.{is_expression, sort_at, arity_at, bound_at}
use Rattle.problem.specs.Problems.{nodes_in, sorts_in}
use Rattle.meaning.specs.Tuples.{tuples}
use Rattle.meaning.specs.Formulas.{arity}
use Rattle.meaning.specs.Trees.{no_variable}
use Rattle.meaning.specs.Expressions.{expr_table}
use Rattle.table.specs.declared.table.Table.{Table}
use Rattle.table.specs.Tables.{path_of}
use Rattle.tuples.specs.declared.packed.Packed.{Packed}
use Rattle.tuples.specs.Packing.{packed_table}
use Rattle.evaluate.specs.declared.parts.Closed.{Closed}
use Rattle.evaluate.specs.declared.kept.States.{States}
use Rattle.evaluate.specs.declared.few.Entry.{Entry}
use Rattle.evaluate.specs.Shown.{expr_in}

-- of a problem's node: it is an expression that uses no variable, and its tuples have so many atoms
pub record ClosedIs (p : Problem) (c : Closed) : Type 0 where
  pub there : c.node < length (nodes_in p)
  pub expression : is_expression (sort_at (sorts_in p) c.node) ≡ true
  pub closed : bound_at (sorts_in p) c.node ≡ 0
  pub arity : c.arity ≡ arity_at (sorts_in p) c.node
  pub few : c.arity ≤ 3

-- at each instant of a state, a packed set has the first 4 × k values of an expression over n atoms with no variable bound
pub record PackedIs {k : ℕ} (n : ℕ) (p : Problem) (t : Table) (node state : ℕ) (x : Packed k) : Type 0 where
  pub value : (i q : ℕ) → state_at t.shape.states t.shape.loop_start i ≡ state → q < 4 * k → q < tuples n (arity (expr_in p node)) → packed_table x q ≡ expr_table n (path_of t) (expr_in p node) no_variable i q

-- in each state, packed sets have all of its values
abbrev pub KeptStates : {k : ℕ} → ℕ → Problem → Table → ℕ → List (Packed k) → Type 0
KeptStates {k} n p t j xs =
    (i : ℕ) (beyond : Packed k) (q : ℕ) → q < tuples n (arity (expr_in p j)) →
    packed_table (slice_index_or xs (state_at t.shape.states t.shape.loop_start i) beyond) q ≡ expr_table n (path_of t) (expr_in p j) no_variable i q

-- of a node that uses no variable, whose tuples have so many atoms
abbrev pub StatesAre : {k : ℕ} → ℕ → Problem → Table → ℕ → States k → Type 0
StatesAre {k} n p t j x = (is_expression (sort_at (sorts_in p) j) ≡ true) × (bound_at (sorts_in p) j ≡ 0) × (x.arity ≡ arity_at (sorts_in p) j) × KeptStates n p t j x.values

-- whatever is kept of a node is right
abbrev pub KnownIs : {k : ℕ} → ℕ → Problem → Table → List (Option (States k)) → Type 0
KnownIs {k} n p t ks = (j : ℕ) (x : States k) → slice_index_or ks j None ≡ Some x → StatesAre n p t j x

-- and so is what is kept beside a node
abbrev pub LargeAre : {k : ℕ} → ℕ → Problem → Table → List (Option (Entry (States k))) → Type 0
LargeAre {k} n p t es = (place : ℕ) (x : Entry (States k)) → slice_index_or es place None ≡ Some x → StatesAre n p t x.node x.item
