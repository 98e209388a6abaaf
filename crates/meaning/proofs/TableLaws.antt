-- The table of each operator shows the operator.
use Rattle.std.proofs.Common.{◌≡◌, ℕ, ◌+◌, ◌-◌, ◌*◌, ◌/◌, ◌%◌, ◌<◌, ◌⊎◌, List, sym, subst, arith}
use Rattle.std.specs.Prelude.{true, ◌&&◌, nat_lt}
use Rattle.std.proofs.lemmas.Bool.Decides.{nat_tests}
use Rattle.std.proofs.lemmas.Nat.{div_below, mod_below, mul-add-lt}
use Rattle.lasso.specs.declared.value.Value.{Value}
use Rattle.problem.specs.declared.node.Constant.{Constant}
use Rattle.problem.specs.declared.node.Constant.TheVariants as constant
use Rattle.problem.specs.declared.node.Turn.{Turn}
use Rattle.problem.specs.declared.node.Turn.TheVariants as turn
use Rattle.problem.specs.declared.node.Operator.{Operator}
use Rattle.problem.specs.declared.node.Operator.TheVariants as operator
use Rattle.problem.specs.declared.node.Test.{Test}
use Rattle.problem.specs.declared.node.Test.TheVariants as test
use Rattle.problem.specs.declared.node.Comparison.{Comparison}
use Rattle.problem.specs.declared.node.Comparison.TheVariants as comparison
use Rattle.problem.specs.declared.node.Quantifier.{Quantifier}
use Rattle.problem.specs.declared.node.Quantifier.TheVariants as quantifier
use Rattle.problem.specs.Sorts.{outcome, suits}
use Rattle.meaning.specs.Levels.{Level, opposite, Graded}
use Rattle.meaning.specs.Tuples.{tuples, Union, Intersection, Difference, Product, Join, Transpose, Closure, ConstantHas, TurnedBy, CombinedBy, Some, None, Within, Same}
use Rattle.meaning.specs.Meaning.{TestedBy, ComparedBy, QuantifiedBy}
use Rattle.meaning.specs.Tables.{Table, table_at, TableIs, constant_table, variable_table, union_table, intersection_table, difference_table, product_table, join_table, transpose_table, closure_table, turned_table, combined_table, some_value, no_value, within_value, same_value, all_value, some_of_value, tested_value, compared_value, quantified_value}
use Rattle.meaning.specs.Shown.{ShownAt, Shown, Of, Suited}
use Rattle.meaning.proofs.Shown.{same_shown, onward, yes_shown, no_shown, decided_shown, not_shown, smaller_shown, greater_shown, highest_shown, lowest_shown}
use Rattle.meaning.proofs.Chains.{chains_shown, chain_along}
use Rattle.meaning.proofs.Counts.{tuples_add, tuples_more, tuples_two, some_right, left_lt, right_lt}

-- a list with those values shows the same
pub listed_shown : {P : Graded} {f : Table} (c : ℕ) (xs : List Value) → TableIs c xs f → Shown P f c → Shown P (table_at xs) c
listed_shown c xs new s r k = same_shown (new r k) (s r k)

pub fewer_shown : {P : Graded} {f : Table} (c d : ℕ) → d ≡ c → Shown P f c → Shown P f d
fewer_shown c d e s r k = s r (omega arith)

pub constant_shown : (n : ℕ) (c : Constant) (r : ℕ) → ShownAt (λ t. ConstantHas n c r) (constant_table n c r)
constant_shown n constant.Univ r = yes_shown
constant_shown n constant.None r = no_shown
constant_shown n constant.Iden r = decided_shown (r / n) (r % n)

pub variable_shown : (a r : ℕ) → ShownAt (λ t. r ≡ a) (variable_table a r)
variable_shown a r = decided_shown r a

-- the two ends of a join, at each shared atom
pub join_met :
    (P Q : Graded) (f g : Table) (n m r : ℕ) → ((a : ℕ) → a < n → ShownAt (λ t. P t (r / m * n + a)) (f (r / m * n + a))) →
    ((a : ℕ) → a < n → ShownAt (λ t. Q t (a * m + r % m)) (g (a * m + r % m))) → ShownAt (λ t. Join n m P Q t r) (join_table n m f g r)
join_met P Q f g n m r p q =
    let both : Graded = λ t a. P t (r / m * n + a) × Q t (a * m + r % m) in
    onward (λ t. (λ x. (x.0, x.1, x.2.0, x.2.1), λ x. (x.0, x.1, (x.2, x.3)))) (highest_shown {P = both} n (λ a k. smaller_shown (p a k) (q a k)))

module _ {P Q : Graded} {f g : Table} where
  pub union_shown : {c : ℕ} → Shown P f c → Shown Q g c → Shown (Union P Q) (union_table f g) c
  union_shown p q r k = greater_shown (p r k) (q r k)

  pub intersection_shown : {c : ℕ} → Shown P f c → Shown Q g c → Shown (Intersection P Q) (intersection_table f g) c
  intersection_shown p q r k = smaller_shown (p r k) (q r k)

  pub difference_shown : {c : ℕ} → Shown P f c → Shown Q g c → Shown (Difference P Q) (difference_table f g) c
  difference_shown p q r k = smaller_shown (p r k) (not_shown (q r k))

  pub product_shown : (h m : ℕ) → Shown P f h → Shown Q g m → Shown (Product m P Q) (product_table m f g) (h * m)
  product_shown h m p q r k =
      let pos = some_right h m r k in smaller_shown (p (r / m) (div_below r m h pos k)) (q (r % m) (mod_below r m pos))

  pub join_shown : (n h m : ℕ) → Shown P f (n * h) → Shown Q g (n * m) → Shown (Join n m P Q) (join_table n m f g) (h * m)
  join_shown n h m p q r k = join_met P Q f g n m r (λ a l. p _ (left_lt n m h r a k l)) (λ a l. q _ (right_lt n m h r a k l))

  pub within_shown : (c : ℕ) → Shown P f c → Shown Q g c → ShownAt (Within c P Q) (within_value c f g)
  within_shown c p q =
      let each : Graded = λ t r. (P (opposite t) r → ⊥) ⊎ Q t r in
      lowest_shown {P = each} c (λ r k. greater_shown (not_shown (p r k)) (q r k))

module _ {P : Graded} {f : Table} where
  pub transpose_shown : (n : ℕ) → Shown P f (n * n) → Shown (Transpose n P) (transpose_table n f) (n * n)
  transpose_shown n p r k =
      let pos = some_right n n r k in p (r % n * n + r / n) (mul-add-lt (r % n) n (r / n) n (mod_below r n pos) (div_below r n n pos k))

  pub closure_shown : (n : ℕ) → Shown P f (n * n) → Shown (Closure n P) (closure_table n f) (n * n)
  closure_shown n p r k =
      let pos = some_right n n r k in
      let la = div_below r n n pos k in
      let lb = mod_below r n pos in
      onward
      (λ t. (
        chain_along n (λ a b. Of f t (a * n + b)) (λ a b. P t (a * n + b)) (λ a b u v. ((p _ (mul-add-lt a n b n u v)).each t).0) la lb,
        chain_along n (λ a b. P t (a * n + b)) (λ a b. Of f t (a * n + b)) (λ a b u v. ((p _ (mul-add-lt a n b n u v)).each t).1) la lb,
      ))
      (chains_shown n f r)

  pub turned_shown : (s : Turn) (n : ℕ) → Shown P f (tuples n 2) → Shown (TurnedBy s n P) (turned_table s n f) (tuples n 2)
  turned_shown turn.Transpose n p =
      fewer_shown (n * n) (tuples n 2) (tuples_two n) (transpose_shown n (fewer_shown (tuples n 2) (n * n) (sym (tuples_two n)) p))
  turned_shown turn.Closure n p =
      fewer_shown (n * n) (tuples n 2) (tuples_two n) (closure_shown n (fewer_shown (tuples n 2) (n * n) (sym (tuples_two n)) p))

  pub some_shown : (c : ℕ) → Shown P f c → ShownAt (Some c P) (some_value c f)
  some_shown c p = highest_shown c p

  pub none_shown : (c : ℕ) → Shown P f c → ShownAt (None c P) (no_value c f)
  none_shown c p = not_shown (highest_shown c p)

  pub tested_shown : (q : Test) (c : ℕ) → Shown P f c → ShownAt (TestedBy q c P) (tested_value q c f)
  tested_shown test.Some c p = some_shown c p
  tested_shown test.No c p = none_shown c p

-- what the judgement of an expression asks
pub suited : (o : Operator) (a b : ℕ) → (nat_lt 0 a && (nat_lt 0 b && suits o a b)) ≡ true → Suited o a b
suited operator.Union a b h = grind (arith, nat_tests)
suited operator.Difference a b h = grind (arith, nat_tests)
suited operator.Intersection a b h = grind (arith, nat_tests)
suited operator.Product a b h = tt
suited operator.Join a b h = (grind (arith, nat_tests), grind (arith, nat_tests))

module _ {P Q : Graded} {f g : Table} where
  pub combined_shown :
      (o : Operator) (n a b : ℕ) → Suited o a b → Shown P f (tuples n a) → Shown Q g (tuples n b) →
      Shown (CombinedBy o n b P Q) (combined_table o n b f g) (tuples n (outcome o a b))
  combined_shown operator.Union n a b s p q = union_shown p (subst (λ (k : ℕ). Shown Q g (tuples n k)) (sym s) q)
  combined_shown operator.Difference n a b s p q = difference_shown p (subst (λ (k : ℕ). Shown Q g (tuples n k)) (sym s) q)
  combined_shown operator.Intersection n a b s p q = intersection_shown p (subst (λ (k : ℕ). Shown Q g (tuples n k)) (sym s) q)
  combined_shown operator.Product n a b s p q =
      fewer_shown (tuples n a * tuples n b) (tuples n (a + b)) (sym (tuples_add n a b)) (product_shown (tuples n a) (tuples n b) p q)
  combined_shown operator.Join n a b s p q =
      let h : ℕ = tuples n (a - 1) in
      let m : ℕ = tuples n (b - 1) in
      let d : (a - 1) + (b - 1) ≡ a + b - 2 = omega arith in
      let e : tuples n (a + b - 2) ≡ h * m = cc (tuples_add n (a - 1) (b - 1)) in
      fewer_shown (h * m) (tuples n (a + b - 2)) e
      (join_shown n h m (fewer_shown (tuples n a) (n * h) (tuples_more n a s.0) p) (fewer_shown (tuples n b) (n * m) (tuples_more n b s.1) q))

  pub same_of_shown : (c : ℕ) → Shown P f c → Shown Q g c → ShownAt (Same c P Q) (same_value c f g)
  same_of_shown c p q = smaller_shown (within_shown c p q) (within_shown c q p)

  pub compared_shown : (s : Comparison) (c : ℕ) → Shown P f c → Shown Q g c → ShownAt (ComparedBy s c P Q) (compared_value s c f g)
  compared_shown comparison.In c p q = within_shown c p q
  compared_shown comparison.Equal c p q = same_of_shown c p q

module _ {P : Graded} {F : ℕ → Level → Type 0} {d f : Table} where
  pub all_shown : (n : ℕ) → Shown P d n → Shown (λ t a. F a t) f n → ShownAt (QuantifiedBy quantifier.All n P F) (all_value n d f)
  all_shown n p q =
      let each : Graded = λ t a. (P (opposite t) a → ⊥) ⊎ F a t in
      lowest_shown {P = each} n (λ a k. greater_shown (not_shown (p a k)) (q a k))

  pub some_of_shown : (n : ℕ) → Shown P d n → Shown (λ t a. F a t) f n → ShownAt (QuantifiedBy quantifier.Some n P F) (some_of_value n d f)
  some_of_shown n p q =
      let both : Graded = λ t a. P t a × F a t in
      onward (λ t. (λ x. (x.0, x.1, x.2.0, x.2.1), λ x. (x.0, x.1, (x.2, x.3)))) (highest_shown {P = both} n (λ a k. smaller_shown (p a k) (q a k)))

  pub quantified_shown : (q : Quantifier) (n : ℕ) → Shown P d n → Shown (λ t a. F a t) f n → ShownAt (QuantifiedBy q n P F) (quantified_value q n d f)
  quantified_shown quantifier.All n p s = all_shown n p s
  quantified_shown quantifier.Some n p s = some_of_shown n p s
