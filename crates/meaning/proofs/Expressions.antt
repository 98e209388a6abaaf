-- Each expression has a value at each tuple: that of its table.
use Rattle.std.proofs.Common.{ℕ, ◌+◌, ◌-◌, ◌*◌, ◌/◌, ◌%◌, List}
use Rattle.std.specs.Prelude.{slice_index}
use Rattle.problem.specs.declared.node.Turn.{Turn}
use Rattle.problem.specs.declared.node.Turn.TheVariants as turn
use Rattle.problem.specs.declared.node.Operator.{Operator}
use Rattle.problem.specs.declared.node.Operator.TheVariants as operator
use Rattle.meaning.specs.Levels.{Graded}
use Rattle.meaning.specs.Tuples.{tuples, TurnedBy, CombinedBy}
use Rattle.meaning.specs.Formulas.{Expr, relation, variable, constant, turned, next, combined, arity}
use Rattle.meaning.specs.Meaning.{Path, Has}
use Rattle.meaning.specs.Tables.{Table, turned_table, combined_table}
use Rattle.meaning.specs.Expressions.{expr_table}
use Rattle.meaning.specs.Shown.{ShownAt, Of}
use Rattle.meaning.proofs.Sent.{chain_map}
use Rattle.meaning.proofs.Shown.{own, onward, not_shown, smaller_shown, greater_shown}
use Rattle.meaning.proofs.Chains.{chains_shown}
use Rattle.meaning.proofs.TableLaws.{constant_shown, variable_shown, join_met}

-- at every number, also where there is no tuple
abbrev Everywhere : Graded → Table → Type 0
Everywhere P f = (r : ℕ) → ShownAt (λ t. P t r) (f r)

turned_value : (P : Graded) (f : Table) (s : Turn) (n : ℕ) → Everywhere P f → Everywhere (TurnedBy s n P) (turned_table s n f)
turned_value P f turn.Transpose n p r = p (r % n * n + r / n)
turned_value P f turn.Closure n p r =
    onward
    (λ t. (
      chain_map n (λ a b. Of f t (a * n + b)) (λ a b. P t (a * n + b)) (λ a b. ((p (a * n + b)).each t).0),
      chain_map n (λ a b. P t (a * n + b)) (λ a b. Of f t (a * n + b)) (λ a b. ((p (a * n + b)).each t).1),
    ))
    (chains_shown n f r)

combined_value : (P Q : Graded) (f g : Table) (o : Operator) (n k : ℕ) → Everywhere P f → Everywhere Q g → Everywhere (CombinedBy o n k P Q) (combined_table o n k f g)
combined_value P Q f g operator.Union n k p q r = greater_shown (p r) (q r)
combined_value P Q f g operator.Difference n k p q r = smaller_shown (p r) (not_shown (q r))
combined_value P Q f g operator.Intersection n k p q r = smaller_shown (p r) (q r)
combined_value P Q f g operator.Product n k p q r = let m = tuples n k in smaller_shown (p (r / m)) (q (r % m))
combined_value P Q f g operator.Join n k p q r =
    let m = tuples n (k - 1) in join_met P Q f g n m r (λ a l. p (r / m * n + a)) (λ a l. q (a * m + r % m))

pub has_value : (n : ℕ) (π : Path) (a : Expr) (e : List ℕ) (i r : ℕ) → ShownAt (λ t. Has n π a e i t r) (expr_table n π a e i r)
has_value n π (relation b k) e i r = own (π i (b + r))
has_value n π (variable x) e i r = variable_shown (slice_index e x) r
has_value n π (constant c) e i r = constant_shown n c r
has_value n π (turned s a) e i r = turned_value (Has n π a e i) (expr_table n π a e i) s n (has_value n π a e i) r
has_value n π (next a) e i r = has_value n π a e (i + 1) r
has_value n π (combined o a b) e i r =
    combined_value (Has n π a e i) (Has n π b e i) (expr_table n π a e i) (expr_table n π b e i) o n (arity b) (has_value n π a e i) (has_value n π b e i) r
