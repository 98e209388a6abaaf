-- A formula that was read is whole: a reading leaves the variables in scope as they were, and its last node uses no others.
use Rattle.std.proofs.Common.{◌≡◌, ℕ, zero, suc, ◌-◌, ◌<◌, ◌≤◌, Bool, true, false, cond, ltb, List, [], ◌∷◌, ◌++◌, length, take as front, Some, None, Ok, Err, Option, Result, refl, ap, ◌∙◌, subst, arith}
use Rattle.std.proofs.Math.Seq.{take-append_seam}
use Rattle.std.proofs.lemmas.List.{get_or_push, length_push}
use Rattle.faults.specs.declared.Fault.{Fault}
use Rattle.problem.specs.declared.node.Node.{Node}
use Rattle.problem.specs.declared.node.Test.{Test}
use Rattle.problem.specs.declared.node.Quantifier.{Quantifier}
use Rattle.problem.specs.declared.sort.Sort.{Sort}
use Rattle.problem.specs.declared.sort.Kind.{Kind}
use Rattle.problem.specs.declared.sort.Kind.TheVariants as kind
use Rattle.problem.specs.declared.sort.Misfit.{Misfit}
use Rattle.problem.specs.declared.sort.Misfit.TheVariants as misfit
use Rattle.problem.specs.Sorts.{wanted, judge, no_sort, sort_at, is_formula, sort_bound, bound_at, most_parts, Whole}
use Rattle.problem.proofs.Judging.{wanted_inv}
use Rattle.tokens.specs.declared.mark.Mark.{Mark}
use Rattle.tokens.specs.declared.mark.Mark.TheVariants as mark
use Rattle.tokens.specs.Items.{place_of, is_mark}
use Rattle.tokens.specs.Cursors.{Cursor, head, step, expected}
use Rattle.formulas.specs.declared.wish.Wish.{Wish}
use Rattle.formulas.specs.declared.start.Start.{Start}
use Rattle.formulas.specs.declared.start.Start.TheVariants as start
use Rattle.formulas.specs.declared.sketch.calls.Meant.{Meant}
use Rattle.formulas.specs.Bodies.{Body, Open}
use Rattle.formulas.specs.Starts.{Head, h_name, h_constant, h_turn, h_open, head_of, start_of}
use Rattle.tokens.specs.Outcomes as steps
use Rattle.tokens.specs.Outcomes.{fail, taking, check, Change, changed, unfit, alter}
use Rattle.formulas.specs.Outcomes.{Outcome, ok, then, next, unless, counted, asked, arities_of, arity_in, placing, putting, leafed, naming, bindable, bound, unbound, closing}
use Rattle.formulas.specs.Expressions.{Primaries, settle as settle_expression, at_end, named, combined, prime, primes, primed, beginning as beginning_expression, primary, expression, after_name}
use Rattle.formulas.specs.Formulas.{Formulas, Expressions, settle, tested, range, domain, some_by, beginning, formula}

-- what holds of what is read so far, after a reading that does not fail
abbrev After : (Body → Type 0) → Outcome ℕ → Type 0
After P (steps.ok x c z) = P z.0
After P (steps.fail f c) = Unit {0}

-- a reader that goes from the one to the other
abbrev Reads : (Body → Type 0) → (Body → Type 0) → Formulas → Type 0
Reads P Q f = (c : Cursor) (b : Body) (o : Open) → P b → After Q (f c b o)

-- what holds of what is read so far, after a step that does not fail
abbrev Leaves : {X : Type 0} → (Body → Type 0) → Change Body X → Type 0
Leaves P (changed x b) = P b
Leaves P (unfit f) = Unit {0}

-- each way to go on, from its parts
module _ (P Q : Body → Type 0) where
  then_after : (r : Outcome ℕ) (k : ℕ → Cursor → Body → Open → Outcome ℕ) → After P r → ((x : ℕ) (c : Cursor) (b : Body) (o : Open) → P b → After Q (k x c b o)) → After Q (then r k)
  then_after (steps.ok x c z) k h g = g x c z.0 z.1 h
  then_after (steps.fail f c) k h g = tt

  alter_after : {X : Type 0} (z : Change Body X) (c : Cursor) (k : X → Body → Outcome ℕ) → Leaves P z → ((x : X) (b : Body) → P b → After Q (k x b)) → After Q (alter z c k)
  alter_after (changed x b) c k h g = g x b h
  alter_after (unfit f) c k h g = tt

  next_leaves : {X Y : Type 0} (z : Change Body X) (k : X → Body → Change Body Y) → Leaves P z → ((x : X) (b : Body) → P b → Leaves Q (k x b)) → Leaves Q (next z k)
  next_leaves (changed x b) k h g = g x b h
  next_leaves (unfit f) k h g = tt

module _ {X : Type 0} (Q : Body → Type 0) where
  check_after : (r : Result X Fault) (c : Cursor) (k : X → Outcome ℕ) → ((x : X) → After Q (k x)) → After Q (check r c k)
  check_after (Ok x) c k g = g x
  check_after (Err f) c k g = tt

  taking_after : (r : Option X) (c : Cursor) (k : X → Cursor → Outcome ℕ) → ((x : X) (c : Cursor) → After Q (k x c)) → After Q (taking r c k)
  taking_after None c k g = tt
  taking_after (Some x) c k g = g x (step c)

  opening_after : (z : Change Open X) (c : Cursor) (k : X → Open → Outcome ℕ) → ((x : X) (o : Open) → After Q (k x o)) → After Q (alter z c k)
  opening_after (changed x o) c k g = g x o
  opening_after (unfit f) c k g = tt

  unless_leaves : (r : Result X Fault) (k : X → Change Body ℕ) → ((x : X) → Leaves Q (k x)) → Leaves Q (unless r k)
  unless_leaves (Ok x) k g = g x
  unless_leaves (Err f) k g = tt

cond_after : (Q : Body → Type 0) (t : Bool) (r s : Outcome ℕ) → After Q r → After Q s → After Q (cond t r s)
cond_after Q true r s g h = g
cond_after Q false r s g h = h

cond_leaves : {X : Type 0} (Q : Body → Type 0) (t : Bool) (z : Change Body X) (f : Fault) → Leaves Q z → Leaves Q (cond t z (unfit f))
cond_leaves Q true z f g = g
cond_leaves Q false z f g = tt

closing_after : (Q : Body → Type 0) (z : Option (Change Open ℕ)) (m : Mark) (c : Cursor) (k : ℕ → Cursor → Open → Outcome ℕ) → ((p : ℕ) (c : Cursor) (o : Open) → After Q (k p c o)) → After Q (closing z m c k)
closing_after Q None m c k g = tt
closing_after Q (Some z) m c k g = opening_after Q z c _ (λ p o. check_after Q (expected m (head c)) (step c) _ (λ _. g p (step c) o))

-- an expression leaves the scope as it is
module _ (xs : List (List ℕ)) where
  abbrev Kept : Body → Type 0
  Kept b = b.scope ≡ xs

  counted_kept : (p : ℕ) (b : Body) → Kept b → Leaves Kept (counted p b)
  unfolding counted
  counted_kept p b e = cond_leaves Kept (ltb b.parts most_parts) _ _ e

  placing_kept : (r : Result Sort Misfit) (n : Node) (p : ℕ) (b : Body) → Kept b → Leaves Kept (placing r n p b)
  placing_kept (Ok s) n p b e = e
  placing_kept (Err m) n p b e = tt

  putting_kept : (k : Kind) (n : Node) (p : ℕ) (b : Body) → Kept b → Leaves Kept (putting k n p b)
  unfolding putting
  putting_kept k n p b e = placing_kept _ n p b e

  leafed_kept : (m : Meant) (p : ℕ) (u w : Option Wish) (b : Body) → Kept b → Leaves Kept (leafed m p u w b)
  leafed_kept m p u w b e = unless_leaves Kept (asked u m.arity) _ (λ _. unless_leaves Kept (asked w m.arity) _ (λ _. next_leaves Kept Kept (counted p b) _ (counted_kept p b e) (λ _ b₁ e₁. putting_kept _ _ p b₁ e₁)))

  settle_kept : (n : Node) (p : ℕ) → Reads Kept Kept (settle_expression n p)
  settle_kept n p c b o e = alter_after Kept Kept (putting kind.Expression n p b) c _ (putting_kept _ n p b e) (λ i b₁ e₁. e₁)

  named_kept : (x : List ℕ) (p : ℕ) (u w : Option Wish) → Reads Kept Kept (named x p u w)
  named_kept x p u w c b o e = alter_after Kept Kept (naming x p u w b) c _ (unless_leaves Kept _ _ (λ m. leafed_kept m p u w b e)) (λ i b₁ e₁. e₁)

  prime_kept : (p : ℕ) (w : Option Wish) (i : ℕ) → Reads Kept Kept (prime p w i)
  prime_kept p w i c b o e =
      check_after Kept (asked (at_end w (step c)) (arity_in i b)) (step c) _ (λ _.
      alter_after Kept Kept (counted _ b) _ _ (counted_kept _ b e) (λ _ b₁ e₁. settle_kept _ p _ b₁ o e₁))

  primes_kept : (n p : ℕ) (w : Option Wish) (i : ℕ) → Reads Kept Kept (primes n p w i)
  unfolding primes
  primes_kept zero p w i c b o e = e
  primes_kept (suc n) p w i c b o e =
      cond_after Kept (is_mark mark.Prime (head c)) _ _
      (then_after Kept Kept _ _ (prime_kept p w i c b o e) (λ j c₁ b₁ o₁ e₁. primes_kept n p w j c₁ b₁ o₁ e₁))
      e

  after_name_kept : (x : List ℕ) (p : ℕ) → Reads Kept Kept (after_name x p)
  after_name_kept x p c b o e = then_after Kept Kept _ _ (named_kept x p None None c b o e) (λ i c₁ b₁ o₁ e₁. primes_kept most_parts p None i c₁ b₁ o₁ e₁)

  abbrev Keeps : Primaries → Type 0
  Keeps f = (u w : Option Wish) → Reads Kept Kept (f u w)

  primed_kept : (f : Primaries) → Keeps f → (w : Option Wish) → Reads Kept Kept (primed f w)
  primed_kept f F w c b o e = then_after Kept Kept _ _ (F None w c b o e) (λ i c₁ b₁ o₁ e₁. primes_kept most_parts _ w i c₁ b₁ o₁ e₁)

  combined_kept : (n : Node) (u w : Option Wish) → Reads Kept Kept (combined n u w)
  combined_kept n u w c b o e = closing_after Kept _ _ c _ (λ p c₁ o₁. alter_after Kept Kept (putting _ n p b) c₁ _ (putting_kept _ n p b e) (λ i b₁ e₁. check_after Kept (asked u (arity_in i b₁)) c₁ _ (λ _. check_after Kept (asked (at_end w c₁) (arity_in i b₁)) c₁ _ (λ _. e₁))))

  beginning_kept : (f : Primaries) → Keeps f → (h : Option Head) (u w : Option Wish) → Reads Kept Kept (beginning_expression f h u w)
  beginning_kept f F (Some (h_name x)) u w c b o e = named_kept x _ u (at_end w (step c)) (step c) b o e
  beginning_kept f F (Some (h_constant k)) u w c b o e = alter_after Kept Kept _ _ _ (leafed_kept _ _ u (at_end w (step c)) b e) (λ i b₁ e₁. e₁)
  beginning_kept f F (Some (h_turn t)) u w c b o e =
      alter_after Kept Kept (counted _ b) _ _ (counted_kept _ b e) (λ _ b₁ e₁.
      then_after Kept Kept _ _ (F _ w _ b₁ o e₁) (λ i c₂ b₂ o₂ e₂. settle_kept _ _ c₂ b₂ o₂ e₂))
  beginning_kept f F (Some h_open) u w c b o e =
      opening_after Kept _ _ _ (λ _ o₁.
      then_after Kept Kept _ _ (primed_kept f F None _ b o₁ e) (λ x c₂ b₂ o₂ e₂.
      taking_after Kept _ c₂ _ (λ s c₃.
      alter_after Kept Kept (counted _ b₂) c₃ _ (counted_kept _ b₂ e₂) (λ _ b₃ e₃.
      then_after Kept Kept _ _ (primed_kept f F None c₃ b₃ o₂ e₃) (λ y c₄ b₄ o₄ e₄.
      combined_kept _ u w c₄ b₄ o₄ e₄)))))
  beginning_kept f F None u w c b o e = tt

  primary_kept : (n : ℕ) → Keeps (primary n)
  unfolding primary
  primary_kept zero u w c b o e = tt
  primary_kept (suc n) u w c b o e = beginning_kept (primary n) (primary_kept n) (head_of (head c)) u w c b o e

-- the last node is a formula that uses no variables but those in scope
record Closed (xs : List (List ℕ)) (b : Body) : Type 0 where
  pub scope : b.scope ≡ xs
  pub some : 0 < length b.sorts
  pub formula : is_formula (sort_at b.sorts (length b.sorts - 1)) ≡ true
  pub few : bound_at b.sorts (length b.sorts - 1) ≤ length xs

placing_closed : (xs : List (List ℕ)) (t : Bool) (j r : Result Sort Misfit) (n : Node) (p : ℕ) (b : Body) → b.scope ≡ xs → cond t (wanted kind.Formula (length b.scope) j) (Err misfit.Room) ≡ r → Leaves (Closed xs) (placing r n p b)
placing_closed xs true j (Ok s) n p b e q =
    let w = wanted_inv kind.Formula (length b.scope) j s q in
    let l = length_push b.sorts s in
    let g = get_or_push b.sorts s no_sort (length (b.sorts ++ s ∷ []) - 1) (omega arith) in
    record {
      scope = e;
      some = omega arith;
      formula = ap is_formula g ∙ w.is_of_kind;
      few = omega (arith, ap length e, ap sort_bound g);
    }
placing_closed xs false j (Ok s) n p b e q = absurd cc
placing_closed xs t j (Err m) n p b e q = tt

settle_closed : (xs : List (List ℕ)) (n : Node) (p : ℕ) → Reads (Kept xs) (Closed xs) (settle n p)
unfolding putting
settle_closed xs n p c b o e =
    alter_after (Closed xs) (Closed xs) (putting kind.Formula n p b) c _
    (placing_closed xs (ltb (length b.sorts) most_parts) (judge (arities_of b) b.sorts n) _ n p b e refl)
    (λ i b₁ e₁. e₁)

counted_closed : (xs : List (List ℕ)) (p : ℕ) (c : Cursor) (k : Body → Outcome ℕ) (b : Body) → b.scope ≡ xs → ((b : Body) → b.scope ≡ xs → After (Closed xs) (k b)) → After (Closed xs) (alter (counted p b) c (λ _ b₁. k b₁))
counted_closed xs p c k b e g = alter_after (Kept xs) (Closed xs) (counted p b) c _ (counted_kept xs p b e) (λ _ b₁ e₁. g b₁ e₁)

-- a variable more in scope, and out of it again
bound_kept : (xs : List (List ℕ)) (x : List ℕ) (p : ℕ) (b : Body) → b.scope ≡ xs → Leaves (Kept (xs ++ x ∷ [])) (bound x p b)
unfolding bound
bound_kept xs x p b e = cond_leaves (Kept (xs ++ x ∷ [])) (ltb (length b.scope) 4) _ _ (ap (λ ys. ys ++ x ∷ []) e)

unbound_kept : (xs : List (List ℕ)) (x : List ℕ) (b : Body) → b.scope ≡ xs ++ x ∷ [] → (unbound b).scope ≡ xs
unfolding unbound
unbound_kept xs x b e =
    let l : length b.scope - 1 ≡ length xs = omega (arith, ap length e, length_push xs x) in
    ap (λ n. front n b.scope) l ∙ ap (front (length xs)) e ∙ take-append_seam xs (x ∷ [])

-- a production of a formula, by readers of its parts
module _ (xs : List (List ℕ)) (r : Expressions) (R : (w : Option Wish) → Reads (Kept xs) (Kept xs) (r w)) (f : Formulas) (F : (ys : List (List ℕ)) → Reads (Kept ys) (Closed ys) f) where
  tested_closed : (t : Test) (p : ℕ) → Reads (Kept xs) (Closed xs) (tested r t p)
  tested_closed t p c b o e = then_after (Kept xs) (Closed xs) _ _ (R None c b o e) (λ i c₁ b₁ o₁ e₁. settle_closed xs _ p c₁ b₁ o₁ e₁)

  range_closed : (q : Quantifier) (p : ℕ) (x : List ℕ) (s : ℕ) → Reads (Kept xs) (Closed xs) (range r f q p x s)
  range_closed q p x s c b o e =
      let ys : List (List ℕ) = xs ++ x ∷ [] in
      then_after (Kept xs) (Closed xs) _ _ (R _ c b o e) (λ d c₂ b₂ o₂ e₂.
      check_after (Closed xs) (expected mark.Bar (head c₂)) (step c₂) _ (λ _.
      alter_after (Kept ys) (Closed xs) (bound x s b₂) _ _ (bound_kept xs x s b₂ e₂) (λ v b₃ e₃.
      then_after (Closed ys) (Closed xs) _ _ (F ys _ b₃ o₂ e₃) (λ i c₄ b₄ o₄ e₄.
      settle_closed xs _ p c₄ (unbound b₄) o₄ (unbound_kept xs x b₄ e₄.scope)))))

  domain_closed : (q : Quantifier) (p : ℕ) (x : List ℕ) (s : ℕ) → Reads (Kept xs) (Closed xs) (domain r f q p x s)
  domain_closed q p x s c b o e =
      check_after (Closed xs) (bindable x s b) c _ (λ _.
      check_after (Closed xs) (expected mark.Colon (head c)) (step c) _ (λ _. range_closed q p x s (step c) b o e))

  some_closed : (n : Option (List ℕ)) (p : ℕ) → Reads (Kept xs) (Closed xs) (some_by n r f after_name p)
  some_closed None p c b o e = tested_closed _ p c b o e
  some_closed (Some x) p c b o e =
      cond_after (Closed xs) (is_mark mark.Colon (head (step c))) _ _
      (check_after (Closed xs) (bindable x (place_of (head c)) b) (step (step c)) _ (λ _. range_closed _ p x _ (step (step c)) b o e))
      (then_after (Kept xs) (Closed xs) _ _ (after_name_kept xs x _ (step c) b o e) (λ i c₁ b₁ o₁ e₁. settle_closed xs _ p c₁ b₁ o₁ e₁))

  beginning_closed : (s : Start) → Reads (Kept xs) (Closed xs) (beginning r after_name f s)
  beginning_closed (start.Prefix x) c b o e =
      counted_closed xs _ _ _ b e (λ b₁ e₁.
      then_after (Closed xs) (Closed xs) _ _ (F xs _ b₁ o e₁) (λ i c₂ b₂ o₂ e₂. settle_closed xs _ _ c₂ b₂ o₂ e₂.scope))
  beginning_closed start.Open c b o e =
      opening_after (Closed xs) _ _ _ (λ _ o₁.
      then_after (Closed xs) (Closed xs) _ _ (F xs _ b o₁ e) (λ x c₂ b₂ o₂ e₂.
      taking_after (Closed xs) _ c₂ _ (λ s c₃.
      counted_closed xs _ c₃ _ b₂ e₂.scope (λ b₃ e₃.
      then_after (Closed xs) (Closed xs) _ _ (F xs c₃ b₃ o₂ e₃) (λ y c₄ b₄ o₄ e₄.
      closing_after (Closed xs) _ _ c₄ _ (λ p c₅ o₅. settle_closed xs _ p c₅ b₄ o₅ e₄.scope))))))
  beginning_closed start.All c b o e =
      counted_closed xs _ _ _ b e (λ b₁ e₁. taking_after (Closed xs) _ _ _ (λ x c₁. domain_closed _ _ x _ c₁ b₁ o e₁))
  beginning_closed start.Some c b o e = counted_closed xs _ _ _ b e (λ b₁ e₁. some_closed _ _ (step c) b₁ o e₁)
  beginning_closed start.No c b o e = counted_closed xs _ _ _ b e (λ b₁ e₁. tested_closed _ _ (step c) b₁ o e₁)
  beginning_closed start.Expression c b o e =
      then_after (Kept xs) (Closed xs) _ _ (R None c b o e) (λ x c₁ b₁ o₁ e₁.
      taking_after (Closed xs) _ c₁ _ (λ s c₂.
      counted_closed xs _ c₂ _ b₁ e₁ (λ b₂ e₂.
      then_after (Kept xs) (Closed xs) _ _ (R _ c₂ b₂ o₁ e₂) (λ y c₃ b₃ o₃ e₃. settle_closed xs _ _ c₃ b₃ o₃ e₃))))

formula_closed : (n : ℕ) (xs : List (List ℕ)) → Reads (Kept xs) (Closed xs) (formula n)
unfolding formula
formula_closed zero xs c b o e = tt
formula_closed (suc n) xs c b o e =
    beginning_closed xs (expression n) (primed_kept xs (primary n) (primary_kept xs n)) (formula n) (formula_closed n) (start_of (head c)) c b o e

pub formula_whole : (n : ℕ) (c : Cursor) (b : Body) (o : Open) (i : ℕ) (c₁ : Cursor) (b₁ : Body) (o₁ : Open) → b.scope ≡ [] → formula n c b o ≡ ok i c₁ b₁ o₁ → Whole b₁.sorts
formula_whole n c b o i c₁ b₁ o₁ e q =
    let w : Closed [] b₁ = subst (After (Closed [])) q (formula_closed n [] c b o e) in
    record { some = w.some; formula = w.formula; closed = omega arith }
