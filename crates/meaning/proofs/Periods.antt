-- On the path of a lasso, what an expression and a formula reach comes again after a period.
use Rattle.std.proofs.Common.{◌≡◌, ℕ, ◌+◌, ◌-◌, ◌*◌, ◌<◌, ◌≤◌, max, ◌↔◌, List, sym, ap, ◌∙◌, subst, add-mul, mul-le-mul_right, arith}
use Rattle.std.specs.Prelude.{slice_set}
use native.Mathlib.Nat.{le-max_left, le-max_right}
use Rattle.lasso.specs.declared.value.Value.{Value}
use Rattle.lasso.specs.Lassos.{path}
use Rattle.lasso.proofs.Rounds.{path_again}
use Rattle.problem.specs.Sorts.{prefix_past, infix_past}
use Rattle.meaning.specs.Levels.{Level, at_open, at_yes, AtLeast}
use Rattle.meaning.specs.Tuples.{tuples}
use Rattle.meaning.specs.Formulas.{Expr, relation, variable, constant, turned, next, combined, arity, Formula, tested, compared, prefixed, joined, quantified, depth}
use Rattle.meaning.specs.Meaning.{Path, Has, Reaches}
use Rattle.meaning.specs.Repeats.{RepeatsFrom}
use Rattle.meaning.proofs.Sent.{Sent, Sends, alike, turned_sent, combined_sent, tested_sent, compared_sent, quantified_sent}
use Rattle.meaning.proofs.Repetition.{later, prefixed_repeats, joined_repeats}

-- what is sent both ways is reached alike
both_ways : {A B : Level → Type 0} → Sent at_yes A B → Sent at_yes B A → (t : Level) → A t ↔ B t
both_ways s r at_open = (r.back, s.back)
both_ways s r at_yes = (s.forth, r.forth)

sent : {A B : Level → Type 0} → ((t : Level) → A t ↔ B t) → Sent at_yes A B
sent f = record { forth = (f at_yes).0; back = (f at_open).1 }

sent_back : {A B : Level → Type 0} → ((t : Level) → A t ↔ B t) → Sent at_yes B A
sent_back f = record { forth = (f at_yes).1; back = (f at_open).0 }

-- an expression at two instants, where all values are the same from them on
module _ (n : ℕ) (π : Path) (R : ℕ → ℕ → Type 0) (now : (i j q : ℕ) → R i j → π i q ≡ π j q) (on : (i j : ℕ) → R i j → R (i + 1) (j + 1)) where
  has_like : (a : Expr) (e : List ℕ) (i j : ℕ) → R i j → Sends at_yes (Has n π a e i) (Has n π a e j)
  has_like (relation b k) e i j h r = record {
    forth = λ x. subst (AtLeast at_yes) (now i j (b + r) h) x;
    back = λ x. subst (AtLeast at_open) (sym (now i j (b + r) h)) x;
  }
  has_like (variable x) e i j h r = alike at_yes _
  has_like (constant c) e i j h r = alike at_yes _
  has_like (turned s a) e i j h r = turned_sent at_yes s n (has_like a e i j h) r
  has_like (next a) e i j h r = has_like a e (i + 1) (j + 1) (on i j h) r
  has_like (combined o a b) e i j h r = combined_sent at_yes o n (arity b) (has_like a e i j h) (has_like b e i j h) r

module _ (n k l : ℕ) (at : ℕ → ℕ → Value) (ok : l < k) where
  abbrev π : Path
  π = path k l at

  abbrev p : ℕ
  p = k - l

  has_again : (a : Expr) (e : List ℕ) (i : ℕ) → l ≤ i → Sends at_yes (Has n π a e i) (Has n π a e (i + p))
  has_again a e i h =
      has_like n π (λ j m. (l ≤ j) × (m ≡ j + p))
      (λ j m q x. sym (path_again k l at ok j q x.0) ∙ ap (λ (y : ℕ). π y q) (sym x.1))
      (λ j m x. (omega arith, omega arith))
      a e i (i + p) (h, omega arith)

  has_before : (a : Expr) (e : List ℕ) (i : ℕ) → l ≤ i → Sends at_yes (Has n π a e (i + p)) (Has n π a e i)
  has_before a e i h =
      has_like n π (λ m j. (l ≤ j) × (m ≡ j + p))
      (λ m j q x. ap (λ (y : ℕ). π y q) x.1 ∙ path_again k l at ok j q x.0)
      (λ m j x. (omega arith, omega arith))
      a e (i + p) i (h, omega arith)

  pub reaches_again : (f : Formula) (e : List ℕ) → RepeatsFrom (Reaches n π f e) (l + depth f * p) p
  reaches_again (tested q a) e = record {
    again = λ t i h.
        let c : ℕ = tuples n (arity a) in
        both_ways (tested_sent at_yes q c (has_again a e i (omega arith))) (tested_sent at_yes q c (has_before a e i (omega arith))) t;
  }
  reaches_again (compared s a b) e = record {
    again = λ t i h.
        let c : ℕ = tuples n (arity a) in
        both_ways
        (compared_sent at_yes s c (has_again a e i (omega arith)) (has_again b e i (omega arith)))
        (compared_sent at_yes s c (has_before a e i (omega arith)) (has_before b e i (omega arith)))
        t;
  }
  reaches_again (prefixed x f) e =
      later (prefixed_repeats x (omega arith) (reaches_again f e)) (l + depth (prefixed x f) * p)
      (omega (arith, add-mul (depth f) (prefix_past x) p))
  reaches_again (joined x f g) e =
      let m : ℕ = max (depth f) (depth g) in
      let s : ℕ = l + m * p in
      let r = later (reaches_again f e) s (omega (arith, mul-le-mul_right p (le-max_left (depth f) (depth g)))) in
      let q = later (reaches_again g e) s (omega (arith, mul-le-mul_right p (le-max_right (depth f) (depth g)))) in
      later (joined_repeats x (omega arith) r q) (l + depth (joined x f g) * p) (omega (arith, add-mul m (infix_past x) p))
  reaches_again (quantified q x a f) e = record {
    again = λ t i h.
        let w : (b : ℕ) (u : Level) → Reaches n π f (slice_set e x b) u i ↔ Reaches n π f (slice_set e x b) u (i + p) =
        λ b u. (reaches_again f (slice_set e x b)).again u i h in
        both_ways
        (quantified_sent at_yes q n (has_again a e i (omega arith)) (λ b. sent (w b)))
        (quantified_sent at_yes q n (has_before a e i (omega arith)) (λ b. sent_back (w b)))
        t;
  }
