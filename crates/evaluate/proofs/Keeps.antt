-- What is kept of expressions that use no variable.
use Rattle.std.proofs.Common.{true, ◌≡◌, ℕ, ◌*◌, ◌<◌, ◌≤◌, Option, Some, None, List, [], length, refl, sym, ap, ◌∙◌, subst, arith}
use Rattle.std.specs.Prelude.{IfSome, slice_index_or}
use Rattle.lasso.proofs.Folds.{state_at_below}
use Rattle.lasso.specs.Lassos.{state_at}
use Rattle.problem.specs.declared.problem.Problem.{Problem}
use Rattle.problem.specs.Sorts.{is_expression, sort_at, arity_at, bound_at}
use Rattle.problem.specs.Problems.{nodes_in, sorts_in}
use Rattle.meaning.specs.Tuples.{tuples}
use Rattle.meaning.specs.Formulas.{arity}
use Rattle.meaning.specs.Trees.{no_variable}
use Rattle.meaning.proofs.Nodes.{sorted_in, tree_arity}
use Rattle.table.specs.declared.table.Table.{Table}
use Rattle.table.specs.Tables.{path_of}
use Rattle.tuples.specs.declared.packed.Packed.{Packed}
use Rattle.tuples.specs.declared.tuples.Tuples.{Tuples}
use Rattle.tuples.specs.Packing.{packed_table}
use Rattle.tuples.specs.Tabled.{Tabled}
use Rattle.evaluate.specs.declared.kept.States.{States}
use Rattle.evaluate.specs.Shown.{expr_in, ExpressionIs}
use Rattle.evaluate.specs.Known.{PackedIs, StatesAre}
use Rattle.evaluate.proofs.Closed.{steady}

module _ {k : ℕ} (n : ℕ) (p : Problem) (t : Table) (j : ℕ) (x : States k) (there : j < length (nodes_in p)) where
  -- where each state has its first values, and there is room for all of them
  pub states_are :
      is_expression (sort_at (sorts_in p) j) ≡ true → bound_at (sorts_in p) j ≡ 0 → x.arity ≡ arity_at (sorts_in p) j → tuples n x.arity ≤ 4 * k →
      ((s : ℕ) (beyond : Packed k) → s < t.shape.states → PackedIs n p t j s (slice_index_or x.values s beyond)) → StatesAre n p t j x
  states_are some closed ea room each = (
    some,
    closed,
    ea,
    λ i beyond q l.
        let b : arity (expr_in p j) ≡ x.arity = tree_arity (sorted_in p) j there some ∙ sym ea in
        let m : q < tuples n x.arity = subst (λ (z : ℕ). q < tuples n z) b l in
        (each (state_at t.shape.states t.shape.loop_start i) beyond (state_at_below t.shape.states t.shape.loop_start i t.shape.loops)).value i q refl (omega (arith, m, room)) l,
  )

  -- what is kept of an expression that uses no variable is its set of tuples
  pub kept_is :
      (s : ℕ) (o : Option Tuples) → StatesAre n p t j x → IfSome o (λ r. (beyond : Packed k) → Tabled n x.arity (packed_table (slice_index_or x.values s beyond)) r) →
      IfSome o (λ r. (e : List ℕ) → ExpressionIs n p t e j s r)
  kept_is s None right all = tt
  kept_is s (Some r) right all = λ e.
      let b : x.arity ≡ arity (expr_in p j) = right.2 ∙ sym (tree_arity (sorted_in p) j there right.0) in
      let beyond : Packed k = record { fours = [] } in
      let tabled = all beyond in
      record {
        atoms = tabled.0 ∙ b;
        value = λ i at q l.
            let m : q < tuples n x.arity = subst (λ (z : ℕ). q < tuples n z) (sym b) l in
            tabled.1 q m
            ∙ ap (λ (z : ℕ). packed_table (slice_index_or x.values z beyond) q) (sym at)
            ∙ right.3 i beyond q l
            ∙ steady n (path_of t) p j there right.1 no_variable e i q;
      }
