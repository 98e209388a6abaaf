-- The laws of meaning, each proved from the lemmas beside it. Assumes nothing.
use Rattle.std.proofs.Common.{◌≡◌, ℕ, ◌+◌, ◌-◌, ◌*◌, ◌/◌, ◌%◌, ◌<◌, ◌↔◌, sym, subst, arith}
use Rattle.meaning.specs.Tuples.{tuples, Join, Product}
use Rattle.meaning.specs.Formulas.{arity}
use Rattle.meaning.specs.Meaning.{Has, Reaches}
use Rattle.meaning.specs.Shown.{Of}
use Rattle.meaning.specs.Laws.{AtMostOneValue, Refinement, Settled, Rounds, JoinAtAtoms, ProductAtAtoms, TransposeAtAtoms, ClosureAtAtoms}
use Rattle.meaning.specs.NodeLaws.{NodesStand}
use Rattle.meaning.specs.TableLaws.{TablesStand, ExpressionsStand}
use Rattle.meaning.proofs.Atoms.{join_alone, product_named, transpose_named, closure_named}
use Rattle.meaning.proofs.Coherent.{coheres, one_value}
use Rattle.meaning.proofs.Refines.{refines}
use Rattle.meaning.proofs.Periods.{reaches_again}
use Rattle.meaning.proofs.Expressions.{has_value}
use Rattle.problem.proofs.Arities.{sized_in}
use Rattle.meaning.proofs.Nodes.{sorted_in, tree_arity, tree_depth, past_few}
use Rattle.meaning.proofs.Shown.{own, own_table, not_shown, smaller_shown, greater_shown}
use Rattle.meaning.proofs.Chains.{chains_shown}
use Rattle.meaning.proofs.TableLaws.{constant_shown, variable_shown, join_met, some_shown, none_shown, within_shown, same_of_shown, all_shown, some_of_shown}

pub at_most_one_value : AtMostOneValue
at_most_one_value n π f e i v w = one_value (λ t. Reaches n π f e t i) (coheres n π f e i) v w

pub refinement : Refinement
refinement n π ρ h f e i = let s = refines n π ρ h f e i in (s.forth, s.back)

pub settled : Settled
settled n π ρ h f e i = let s = refines n π ρ h f e i in (s.forth, λ no x. no (s.back x))

pub rounds : Rounds
rounds n k l at ok f e t i h = (reaches_again n k l at ok f e).again t i h

pub join_at_atoms : JoinAtAtoms
join_at_atoms n π x r e i t one two b h =
    let m : tuples n (arity r - 1) ≡ n = rw two (omega arith) in
    let at : ℕ → Type 0 = λ k. Join n k (Has n π x e i) (Has n π r e i) t b ↔ ((a : ℕ) × (a < n) × Has n π x e i t a × Has n π r e i t (a * n + b)) in
    subst at (sym m) (join_alone n n (Has n π x e i) (Has n π r e i) t b h)

pub product_at_atoms : ProductAtAtoms
product_at_atoms n π x y e i t one two a b h k =
    let m : tuples n (arity y) ≡ n = rw two (omega arith) in
    let at : ℕ → Type 0 = λ j. Product j (Has n π x e i) (Has n π y e i) t (a * n + b) ↔ (Has n π x e i t a × Has n π y e i t b) in
    subst at (sym m) (product_named n (Has n π x e i) (Has n π y e i) t a b k)

pub transpose_at_atoms : TransposeAtAtoms
transpose_at_atoms n π r e i t a b h k = transpose_named n (Has n π r e i) t a b k

pub closure_at_atoms : ClosureAtAtoms
closure_at_atoms n π r e i t a b h k = closure_named n (Has n π r e i) t a b k

pub expressions_stand : ExpressionsStand
expressions_stand n π a e i t r = (has_value n π a e i r).each t

pub nodes_stand : NodesStand
nodes_stand = record {
  some = λ p i h k. sized_in p.draft i h k;
  arities = λ p i h k. tree_arity (sorted_in p) i h k;
  depths = λ p i h k. tree_depth (sorted_in p) i h;
  shallow = λ p i h. past_few (sorted_in p) i h;
}

pub tables_stand : TablesStand
tables_stand = record {
  constants = λ n k t r. (constant_shown n k r).each t;
  variables = λ a t r. (variable_shown a r).each t;
  unions = λ f g t r. (greater_shown (own (f r)) (own (g r))).each t;
  intersections = λ f g t r. (smaller_shown (own (f r)) (own (g r))).each t;
  differences = λ f g t r. (smaller_shown (own (f r)) (not_shown (own (g r)))).each t;
  products = λ m f g t r. (smaller_shown (own (f (r / m))) (own (g (r % m)))).each t;
  joins = λ n m f g t r. (join_met (Of f) (Of g) f g n m r (λ a k. own (f (r / m * n + a))) (λ a k. own (g (a * m + r % m)))).each t;
  transposes = λ n f t r. (λ x. x, λ x. x);
  closures = λ n f t r. (chains_shown n f r).each t;
  some = λ k f t. (some_shown k (own_table f k)).each t;
  none = λ k f t. (none_shown k (own_table f k)).each t;
  within = λ k f g t. (within_shown k (own_table f k) (own_table g k)).each t;
  same = λ k f g t. (same_of_shown k (own_table f k) (own_table g k)).each t;
  all = λ n d f t. (all_shown {F = λ a u. Of f u a} n (own_table d n) (own_table f n)).each t;
  some_of = λ n d f t. (some_of_shown {F = λ a u. Of f u a} n (own_table d n) (own_table f n)).each t;
}
