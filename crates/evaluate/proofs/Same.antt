-- Operators make the same of tables that are the same below the count of their tuples.
use Rattle.std.proofs.Common.{◌≡◌, ℕ, ◌<◌, ◌↔◌, refl}
use Rattle.lasso.specs.declared.value.Value.{Value}
use Rattle.lasso.specs.declared.value.Value.TheVariants.{No, Open, Yes}
use Rattle.problem.specs.declared.node.Turn.{Turn}
use Rattle.problem.specs.declared.node.Operator.{Operator}
use Rattle.problem.specs.declared.node.Test.{Test}
use Rattle.problem.specs.declared.node.Comparison.{Comparison}
use Rattle.problem.specs.Sorts.{outcome}
use Rattle.meaning.specs.Levels.{Level, at_open, at_yes, AtLeast}
use Rattle.meaning.specs.Tuples.{tuples, TurnedBy, CombinedBy}
use Rattle.meaning.specs.Meaning.{TestedBy, ComparedBy}
use Rattle.meaning.specs.Tables.{Table, turned_table, combined_table, tested_value, compared_value}
use Rattle.meaning.specs.Shown.{ShownAt, Shown, Of, Suited}
use Rattle.meaning.proofs.Shown.{own, own_table, same_shown}
use Rattle.meaning.proofs.TableLaws.{turned_shown, combined_shown, tested_shown, compared_shown}

at_least_same : (u v : Value) → ((t : Level) → AtLeast t u ↔ AtLeast t v) → u ≡ v
at_least_same No No h = refl
at_least_same No Open h = absurd ((h at_open).1 tt)
at_least_same No Yes h = absurd ((h at_open).1 tt)
at_least_same Open No h = absurd ((h at_open).0 tt)
at_least_same Open Open h = refl
at_least_same Open Yes h = absurd ((h at_yes).1 tt)
at_least_same Yes No h = absurd ((h at_open).0 tt)
at_least_same Yes Open h = absurd ((h at_yes).0 tt)
at_least_same Yes Yes h = refl

-- two values that show the same are the same
shown_same : (A : Level → Type 0) (u v : Value) → ShownAt A u → ShownAt A v → u ≡ v
shown_same A u v p q = at_least_same u v (λ t. (λ x. (q.each t).1 ((p.each t).0 x), λ x. (p.each t).1 ((q.each t).0 x)))

-- two tables are the same below a count
abbrev pub Same : ℕ → Table → Table → Type 0
Same c f g = (r : ℕ) → r < c → f r ≡ g r

shown : (c : ℕ) (f g : Table) → Same c f g → Shown (Of g) f c
shown c f g h r k = same_shown (h r k) (own (g r))

pub turned_same : (s : Turn) (n : ℕ) (f g : Table) → Same (tuples n 2) f g → Same (tuples n 2) (turned_table s n f) (turned_table s n g)
turned_same s n f g h r k =
    shown_same (λ t. TurnedBy s n (Of g) t r) (turned_table s n f r) (turned_table s n g r)
    (turned_shown {P = Of g} {f = f} s n (shown (tuples n 2) f g h) r k)
    (turned_shown {P = Of g} {f = g} s n (own_table g (tuples n 2)) r k)

pub combined_same :
    (o : Operator) (n a b : ℕ) (f g u v : Table) → Suited o a b → Same (tuples n a) f g → Same (tuples n b) u v →
    Same (tuples n (outcome o a b)) (combined_table o n b f u) (combined_table o n b g v)
combined_same o n a b f g u v s h m r k =
    shown_same (λ t. CombinedBy o n b (Of g) (Of v) t r) (combined_table o n b f u r) (combined_table o n b g v r)
    (combined_shown {P = Of g} {Q = Of v} {f = f} {g = u} o n a b s (shown (tuples n a) f g h) (shown (tuples n b) u v m) r k)
    (combined_shown {P = Of g} {Q = Of v} {f = g} {g = v} o n a b s (own_table g (tuples n a)) (own_table v (tuples n b)) r k)

pub tested_same : (q : Test) (c : ℕ) (f g : Table) → Same c f g → tested_value q c f ≡ tested_value q c g
tested_same q c f g h =
    shown_same (TestedBy q c (Of g)) (tested_value q c f) (tested_value q c g)
    (tested_shown {P = Of g} {f = f} q c (shown c f g h)) (tested_shown {P = Of g} {f = g} q c (own_table g c))

pub compared_same : (s : Comparison) (c : ℕ) (f g u v : Table) → Same c f g → Same c u v → compared_value s c f u ≡ compared_value s c g v
compared_same s c f g u v h m =
    shown_same (ComparedBy s c (Of g) (Of v)) (compared_value s c f u) (compared_value s c g v)
    (compared_shown {P = Of g} {Q = Of v} {f = f} {g = u} s c (shown c f g h) (shown c u v m))
    (compared_shown {P = Of g} {Q = Of v} {f = g} {g = v} s c (own_table g c) (own_table v c))
