-- What is sent from one side to another: yes forth to a threshold, and the opposite threshold back to open. Every operator keeps it.
use Rattle.std.proofs.Common.{ℕ, ◌+◌, ◌-◌, ◌*◌, ◌/◌, ◌%◌, ◌<◌, ◌≤◌, ◌⊎◌, List, inl, inr, ⊎_elim}
use Rattle.std.specs.Prelude.{slice_set}
use Rattle.problem.specs.declared.node.Turn.{Turn}
use Rattle.problem.specs.declared.node.Turn.TheVariants as turn
use Rattle.problem.specs.declared.node.Operator.{Operator}
use Rattle.problem.specs.declared.node.Operator.TheVariants as operator
use Rattle.problem.specs.declared.node.Prefix.{Prefix}
use Rattle.problem.specs.declared.node.Prefix.TheVariants as prefix
use Rattle.problem.specs.declared.node.Infix.{Infix}
use Rattle.problem.specs.declared.node.Infix.TheVariants as word
use Rattle.problem.specs.declared.node.Test.{Test}
use Rattle.problem.specs.declared.node.Test.TheVariants as test
use Rattle.problem.specs.declared.node.Comparison.{Comparison}
use Rattle.problem.specs.declared.node.Comparison.TheVariants as comparison
use Rattle.problem.specs.declared.node.Quantifier.{Quantifier}
use Rattle.problem.specs.declared.node.Quantifier.TheVariants as quantifier
use Rattle.meaning.specs.Levels.{Level, at_open, at_yes, opposite, AtLeast, Graded}
use Rattle.meaning.specs.Tuples.{tuples, Chain, one, more, Closure, TurnedBy, CombinedBy, Within}
use Rattle.meaning.specs.Instants.{Until, Since, PrefixedBy, JoinedBy}
use Rattle.meaning.specs.Formulas.{Expr, relation, variable, constant, turned, next, combined, arity, Formula, tested, compared, prefixed, joined, quantified}
use Rattle.meaning.specs.Meaning.{Path, Has, Reaches, TestedBy, ComparedBy, QuantifiedBy}

pub record Sent (t : Level) (A B : Level → Type 0) : Type 0 where
  pub forth : A at_yes → B t
  pub back : B (opposite t) → A at_open

-- at each tuple or instant
abbrev pub Sends : Level → Graded → Graded → Type 0
Sends t P Q = (r : ℕ) → Sent t (λ u. P u r) (λ u. Q u r)

twice : (A : Level → Type 0) (t : Level) → A (opposite (opposite t)) → A t
twice A at_open x = x
twice A at_yes x = x

untwice : (A : Level → Type 0) (t : Level) → A t → A (opposite (opposite t))
untwice A at_open x = x
untwice A at_yes x = x

pub chain_map : (n : ℕ) (R S : ℕ → ℕ → Type 0) → ((a b : ℕ) → R a b → S a b) → {a b : ℕ} → Chain n R a b → Chain n S a b
chain_map n R S h {a} {b} (one x) = one (h a b x)
chain_map n R S h {a} {b} (more {c = c} k x xs) = more k (h a c x) (chain_map n R S h xs)

module _ (t : Level) where
  pub alike : (A : Type 0) → Sent t (λ u. A) (λ u. A)
  alike A = record { forth = λ x. x; back = λ x. x }

  none_sent : {A B : Level → Type 0} → Sent t A B → Sent t (λ u. A (opposite u) → ⊥) (λ u. B (opposite u) → ⊥)
  none_sent {A} {B} s = record { forth = λ n x. n (s.back x); back = λ n x. n (untwice B t (s.forth x)) }

  both_sent : {A B C D : Level → Type 0} → Sent t A B → Sent t C D → Sent t (λ u. A u × C u) (λ u. B u × D u)
  both_sent s r = record { forth = λ x. (s.forth x.0, r.forth x.1); back = λ x. (s.back x.0, r.back x.1) }

  one_sent : {A B C D : Level → Type 0} → Sent t A B → Sent t C D → Sent t (λ u. A u ⊎ C u) (λ u. B u ⊎ D u)
  one_sent s r = record {
    forth = ⊎_elim (λ x. inl (s.forth x)) (λ y. inr (r.forth y));
    back = ⊎_elim (λ x. inl (s.back x)) (λ y. inr (r.back y));
  }

  unless_sent : {A B C D : Level → Type 0} → Sent t A B → Sent t C D → Sent t (λ u. (A (opposite u) → ⊥) ⊎ C u) (λ u. (B (opposite u) → ⊥) ⊎ D u)
  unless_sent s r = one_sent (none_sent s) r

  every_sent : {A B : ℕ → Level → Type 0} (H : ℕ → Type 0) → ((j : ℕ) → Sent t (A j) (B j)) → Sent t (λ u. (j : ℕ) → H j → A j u) (λ u. (j : ℕ) → H j → B j u)
  every_sent H s = record { forth = λ x j h. (s j).forth (x j h); back = λ x j h. (s j).back (x j h) }

  some_sent : {A B : ℕ → Level → Type 0} (H : ℕ → Type 0) → ((j : ℕ) → Sent t (A j) (B j)) → Sent t (λ u. (j : ℕ) × (H j) × A j u) (λ u. (j : ℕ) × (H j) × B j u)
  some_sent H s = record { forth = λ x. (x.0, x.1, (s x.0).forth x.2); back = λ x. (x.0, x.1, (s x.0).back x.2) }

  some_both_sent :
      {A B C D : ℕ → Level → Type 0} (H : ℕ → Type 0) → ((j : ℕ) → Sent t (A j) (B j)) → ((j : ℕ) → Sent t (C j) (D j)) →
      Sent t (λ u. (j : ℕ) × (H j) × A j u × C j u) (λ u. (j : ℕ) × (H j) × B j u × D j u)
  some_both_sent H s r = record {
    forth = λ x. (x.0, x.1, (s x.0).forth x.2, (r x.0).forth x.3);
    back = λ x. (x.0, x.1, (s x.0).back x.2, (r x.0).back x.3);
  }

  closure_sent : (n : ℕ) {P Q : Graded} → Sends t P Q → Sends t (Closure n P) (Closure n Q)
  closure_sent n {P} {Q} s r = record {
    forth = chain_map n (λ a b. P at_yes (a * n + b)) (λ a b. Q t (a * n + b)) (λ a b. (s (a * n + b)).forth);
    back = chain_map n (λ a b. Q (opposite t) (a * n + b)) (λ a b. P at_open (a * n + b)) (λ a b. (s (a * n + b)).back);
  }

  pub turned_sent : (s : Turn) (n : ℕ) {P Q : Graded} → Sends t P Q → Sends t (TurnedBy s n P) (TurnedBy s n Q)
  turned_sent turn.Transpose n s r = s (r % n * n + r / n)
  turned_sent turn.Closure n s r = closure_sent n s r

  pub combined_sent : (o : Operator) (n k : ℕ) {P Q R S : Graded} → Sends t P Q → Sends t R S → Sends t (CombinedBy o n k P R) (CombinedBy o n k Q S)
  combined_sent operator.Union n k p q r = one_sent (p r) (q r)
  combined_sent operator.Difference n k p q r = both_sent (p r) (none_sent (q r))
  combined_sent operator.Intersection n k p q r = both_sent (p r) (q r)
  combined_sent operator.Product n k p q r = let m = tuples n k in both_sent (p (r / m)) (q (r % m))
  combined_sent operator.Join n k p q r =
      let m = tuples n (k - 1) in some_both_sent (λ a. a < n) (λ a. p (r / m * n + a)) (λ a. q (a * m + r % m))

  until_sent : {P Q R S : Graded} → Sends t P Q → Sends t R S → Sends t (Until P R) (Until Q S)
  until_sent p q i = record {
    forth = λ x. (x.0, x.1, (q x.0).forth x.2, λ m h k. (p m).forth (x.3 m h k));
    back = λ x. (x.0, x.1, (q x.0).back x.2, λ m h k. (p m).back (x.3 m h k));
  }

  since_sent : {P Q R S : Graded} → Sends t P Q → Sends t R S → Sends t (Since P R) (Since Q S)
  since_sent p q i = record {
    forth = λ x. (x.0, x.1, (q x.0).forth x.2, λ m h k. (p m).forth (x.3 m h k));
    back = λ x. (x.0, x.1, (q x.0).back x.2, λ m h k. (p m).back (x.3 m h k));
  }

  prefixed_sent : (x : Prefix) {P Q : Graded} → Sends t P Q → Sends t (PrefixedBy x P) (PrefixedBy x Q)
  prefixed_sent prefix.Not p i = none_sent (p i)
  prefixed_sent prefix.After p i = p (i + 1)
  prefixed_sent prefix.Always p i = every_sent (λ j. i ≤ j) p
  prefixed_sent prefix.Eventually p i = some_sent (λ j. i ≤ j) p
  prefixed_sent prefix.Before p i = both_sent (alike (0 < i)) (p (i - 1))
  prefixed_sent prefix.Historically p i = every_sent (λ j. j ≤ i) p
  prefixed_sent prefix.Once p i = some_sent (λ j. j ≤ i) p

  joined_sent : (w : Infix) {P Q R S : Graded} → Sends t P Q → Sends t R S → Sends t (JoinedBy w P R) (JoinedBy w Q S)
  joined_sent word.And p q i = both_sent (p i) (q i)
  joined_sent word.Or p q i = one_sent (p i) (q i)
  joined_sent word.Implies p q i = unless_sent (p i) (q i)
  joined_sent word.Until p q i = until_sent p q i
  joined_sent word.Since p q i = since_sent p q i

  pub tested_sent : (q : Test) (c : ℕ) {P Q : Graded} → Sends t P Q → Sent t (TestedBy q c P) (TestedBy q c Q)
  tested_sent test.Some c p = some_sent (λ r. r < c) p
  tested_sent test.No c p = none_sent (some_sent (λ r. r < c) p)

  within_sent : (c : ℕ) {P Q R S : Graded} → Sends t P Q → Sends t R S → Sent t (Within c P R) (Within c Q S)
  within_sent c p q = every_sent (λ r. r < c) (λ r. unless_sent (p r) (q r))

  pub compared_sent : (s : Comparison) (c : ℕ) {P Q R S : Graded} → Sends t P Q → Sends t R S → Sent t (ComparedBy s c P R) (ComparedBy s c Q S)
  compared_sent comparison.In c p q = within_sent c p q
  compared_sent comparison.Equal c p q = both_sent (within_sent c p q) (within_sent c q p)

  pub quantified_sent :
      (q : Quantifier) (n : ℕ) {P Q : Graded} {F G : ℕ → Level → Type 0} → Sends t P Q → ((a : ℕ) → Sent t (F a) (G a)) →
      Sent t (QuantifiedBy q n P F) (QuantifiedBy q n Q G)
  quantified_sent quantifier.All n p f = every_sent (λ a. a < n) (λ a. unless_sent (p a) (f a))
  quantified_sent quantifier.Some n p f = some_both_sent (λ a. a < n) p f

-- from path to path, if the values are sent at each instant and place
module _ (t : Level) (n : ℕ) (π ρ : Path) (h : (i p : ℕ) → Sent t (λ u. AtLeast u (π i p)) (λ u. AtLeast u (ρ i p))) where
  pub has_sent : (a : Expr) (e : List ℕ) (i : ℕ) → Sends t (Has n π a e i) (Has n ρ a e i)
  has_sent (relation b k) e i r = h i (b + r)
  has_sent (variable x) e i r = alike t _
  has_sent (constant c) e i r = alike t _
  has_sent (turned s a) e i r = turned_sent t s n (has_sent a e i) r
  has_sent (next a) e i r = has_sent a e (i + 1) r
  has_sent (combined o a b) e i r = combined_sent t o n (arity b) (has_sent a e i) (has_sent b e i) r

  pub reaches_sent : (f : Formula) (e : List ℕ) → Sends t (Reaches n π f e) (Reaches n ρ f e)
  reaches_sent (tested q a) e i = tested_sent t q (tuples n (arity a)) (has_sent a e i)
  reaches_sent (compared c a b) e i = compared_sent t c (tuples n (arity a)) (has_sent a e i) (has_sent b e i)
  reaches_sent (prefixed x f) e i = prefixed_sent t x (reaches_sent f e) i
  reaches_sent (joined w f g) e i = joined_sent t w (reaches_sent f e) (reaches_sent g e) i
  reaches_sent (quantified q x a f) e i = quantified_sent t q n (has_sent a e i) (λ b. reaches_sent f (slice_set e x b) i)
