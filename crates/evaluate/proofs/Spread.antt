-- Rows of what differs from state to state only, by a value for each state.
use Rattle.std.proofs.Common.{◌≡◌, ℕ, ◌<◌, ◌≤◌, List, sym, refl, ap, ◌∙◌, subst, arith}
use Rattle.lasso.specs.declared.value.Value.{Value}
use Rattle.lasso.specs.declared.shape.Shape.{Shape}
use Rattle.lasso.specs.Lassos.{state_at}
use Rattle.lasso.proofs.Folds.{state_at_below}
use Rattle.problem.specs.declared.node.Test.{Test}
use Rattle.problem.specs.declared.node.Comparison.{Comparison}
use Rattle.problem.specs.declared.problem.Problem.{Problem}
use Rattle.meaning.specs.Tuples.{tuples}
use Rattle.meaning.specs.Formulas.{arity}
use Rattle.meaning.specs.Tables.{table_at, tested_value, compared_value}
use Rattle.meaning.specs.Expressions.{expr_table}
use Rattle.meaning.specs.Rows.{Row, RowIs}
use Rattle.table.specs.declared.table.Table.{Table}
use Rattle.table.specs.Tables.{path_of}
use Rattle.tuples.specs.declared.tuples.Tuples.{Tuples}
use Rattle.tuples.specs.Tabled.{table_of}
use Rattle.evaluate.specs.Shown.{expr_in, ExpressionIs}
use Rattle.evaluate.specs.Members.{ValueIn, member_at, MembersAre}
use Rattle.evaluate.proofs.Same.{Same, tested_same, compared_same}

-- a row is spread from a value for each state
pub spread_is :
    (t : Table) (x : Shape) (w : ℕ) (vs row : List Value) (f : Row) → x ≡ t.shape → ((s : ℕ) → s < t.shape.states → ValueIn t s (table_at vs s) f) →
    RowIs w row (λ i. table_at vs (state_at x.states x.loop_start i)) → RowIs w row f
spread_is t x w vs row f e each spread i h =
    let k : ℕ = t.shape.states in
    let l : ℕ = t.shape.loop_start in
    let own : table_at row i ≡ table_at vs (state_at k l i) = subst (λ (z : Shape). table_at row i ≡ table_at vs (state_at z.states z.loop_start i)) e (spread i h) in
    own ∙ (each (state_at k l i) (state_at_below k l i t.shape.loops)).value i refl

module _ (n : ℕ) (p : Problem) (t : Table) (e : List ℕ) (s : ℕ) (v : Value) where
  pub tested_value_is :
      (q : Test) (a : ℕ) (x : Tuples) → ExpressionIs n p t e a s x → v ≡ tested_value q (tuples n x.arity) (table_of x) →
      (i : ℕ) → state_at t.shape.states t.shape.loop_start i ≡ s → v ≡ tested_value q (tuples n (arity (expr_in p a))) (expr_table n (path_of t) (expr_in p a) e i)
  tested_value_is q a x part is i at =
      is
      ∙ ap (λ (z : ℕ). tested_value q (tuples n z) (table_of x)) part.atoms
      ∙ tested_same q (tuples n (arity (expr_in p a))) (table_of x) (expr_table n (path_of t) (expr_in p a) e i) (part.value i at)

  pub compared_value_is :
      (c : Comparison) (a b : ℕ) (x y : Tuples) → ExpressionIs n p t e a s x → ExpressionIs n p t e b s y → arity (expr_in p a) ≡ arity (expr_in p b) →
      v ≡ compared_value c (tuples n x.arity) (table_of x) (table_of y) →
      (i : ℕ) → state_at t.shape.states t.shape.loop_start i ≡ s →
      v ≡ compared_value c (tuples n (arity (expr_in p a))) (expr_table n (path_of t) (expr_in p a) e i) (expr_table n (path_of t) (expr_in p b) e i)
  compared_value_is c a b x y first second alike is i at =
      is
      ∙ ap (λ (z : ℕ). compared_value c (tuples n z) (table_of x) (table_of y)) first.atoms
      ∙ compared_same c (tuples n (arity (expr_in p a))) (table_of x) (expr_table n (path_of t) (expr_in p a) e i) (table_of y) (expr_table n (path_of t) (expr_in p b) e i)
      (first.value i at) (subst (λ (z : ℕ). Same (tuples n z) (table_of y) (expr_table n (path_of t) (expr_in p b) e i)) (sym alike) (second.value i at))

-- the value of a tuple in each state is that of the expression, at each instant
pub member_is :
    (n : ℕ) (p : Problem) (t : Table) (e : List ℕ) (j w a : ℕ) (vss : List (List Value)) (row : List Value) → n ≤ 8 → arity (expr_in p j) ≡ 1 → a < n →
    MembersAre n p t e j t.shape.states vss → RowIs w row (λ i. member_at vss (state_at t.shape.states t.shape.loop_start i) a) →
    RowIs w row (λ i. expr_table n (path_of t) (expr_in p j) e i a)
member_is n p t e j w a vss row few one l each h i k =
    let inside : a < tuples n (arity (expr_in p j)) = subst (λ (z : ℕ). a < tuples n z) (sym one) (omega arith) in
    h i k ∙ each (state_at t.shape.states t.shape.loop_start i) (state_at_below t.shape.states t.shape.loop_start i t.shape.loops) i refl a (omega arith) inside
