-- Each production of a formula passes what is of its shape, while parts and brackets are within their limits.
use Rattle.std.specs.Prelude.{nat_lt, length}
use Rattle.std.proofs.Common.{◌≡◌, ℕ, zero, suc, Bool, true, false, cond, List, [], ◌∷◌, ◌++◌, Some, None, refl}
use Rattle.faults.specs.declared.Fault.TheVariants as fault
use Rattle.problem.specs.declared.node.Node.{Node}
use Rattle.problem.specs.declared.node.Node.TheVariants as node
use Rattle.problem.specs.declared.node.Prefix.{Prefix}
use Rattle.problem.specs.declared.node.Test.{Test}
use Rattle.problem.specs.declared.node.Test.TheVariants as test
use Rattle.problem.specs.declared.node.Quantifier.{Quantifier}
use Rattle.problem.specs.declared.node.Quantifier.TheVariants as quantifier
use Rattle.problem.specs.declared.sort.Kind.TheVariants as kind
use Rattle.problem.specs.Sorts.{most_variables}
use Rattle.tokens.specs.declared.mark.Mark.TheVariants as mark
use Rattle.tokens.specs.Items.{Item, place_of, name_of, is_mark}
use Rattle.tokens.specs.Cursors.{Cursor, head, step}
use Rattle.tokens.specs.Outcomes.{take, taking, check, changed, unfit, alter}
use Rattle.formulas.specs.declared.start.Start.{Start}
use Rattle.formulas.specs.declared.start.Start.TheVariants as start
use Rattle.formulas.specs.Bodies.{Body, Open}
use Rattle.formulas.specs.Starts.{start_of, infix_of, comparison_of}
use Rattle.formulas.specs.Outcomes.{ok, then, counted, putting, arity_in, bindable, bound, scoped, unbound, opened}
use Rattle.formulas.specs.Expressions.{wish, expression, after_name}
use Rattle.formulas.specs.Formulas.{Formulas, Expressions, settle, prefixed, close_joined, joined, tested, compared, scope, range, domain, all, some_named, some_by, some, beginning, formula, begun}
use Rattle.reader.specs.Grammar.{Is, IsName, IsPrefix, One, Then, Many, Exp, e_part, p_name, Form, f_prefixed, f_joined, f_all, f_some, f_is_some, f_is_no, f_compared}
use Rattle.std.proofs.Common.{◌+◌, ◌≤◌, ◌∙◌, sym, ap, subst, arith}
use Rattle.declaring.specs.Sets.{most_text}
use Rattle.reader.specs.Grammar.{Part, p_name, p_constant, p_turned, p_bracketed, no_more, one_more}
use Rattle.reader.proofs.Telling.{Shape}
use Rattle.reader.proofs.Items.{other_mark, name_start, constant_start, turn_start, bracket_start, constant_no_name, turn_no_name, bracket_no_name, infix_no_mark, comparison_no_mark}
use Rattle.reader.proofs.Expressions.{Nothing}
use Rattle.reader.proofs.Formulas.{late_bindable, Joined, Ranged, Domain, Compared}
use Rattle.reader.proofs.Passing.{Stands, past, Passed, Sized, sized_ok, sized_late, pass_cond, Passes, and_nothing, pass_map, pass_ok, passes_check, passes_alter, passed_next, head_is, passes_take, passes_taking, passed_then, passes_then, stands_front}
use Rattle.reader.proofs.PassExpressions.{Held, Grown, SameParts, sized_counted, sized_putting, sized_opened, held_more, held_open, NotPrime, PassWholes, passes_closing, pass_expression, pass_after_name}

-- neither a ' sign nor a ":" comes next
abbrev pub Quiet : Cursor → Type 0
Quiet u = NotPrime u × (is_mark mark.Colon (head u) ≡ false)

sized_bound : (x : List ℕ) (p : ℕ) (b : Body) → Sized (SameParts b) (bound x p b)
unfolding bound
sized_bound x p b = go (nat_lt (length b.scope) most_variables)
  where
    go : (t : Bool) → Sized {Z = Body} {X = ℕ} (SameParts b) (cond t (changed (length b.scope) (scoped (b.scope ++ x ∷ []) b)) (unfit (fault.OverLimit p)))
    go true = sized_ok refl
    go false = sized_late refl

unbound_parts : (b : Body) → (unbound b).parts ≡ b.parts
unfolding unbound
unbound_parts b = refl

-- where nothing comes between, the same comes next
still : (R : Cursor → Type 0) (vs : List Item) (u : Cursor) → vs ≡ [] → R (past vs u) → R u
still R vs u e r = subst (λ vs. R (past vs u)) e r

module _ {R : Cursor → Type 0} {Q : ℕ → Body × Open → Type 0} where
  pass_settle : (n : Node) (p : ℕ) (b : Body) (o : Open) → ((i : ℕ) (b₁ : Body) → b₁.parts ≡ b.parts → Q i (b₁, o)) → Passes Nothing R Q (λ c. settle n p c b o)
  pass_settle n p b o h = passes_alter (putting kind.Formula n p b) (sized_putting kind.Formula n p b) (λ i b₁ c. ok i c b₁ o) (λ i b₁ e. pass_ok i (b₁, o) (h i b₁ e))

-- readers of formulas, so many levels deep
abbrev pub PassForms : ℕ → Formulas → Type 0
PassForms n f = (b : Body) (o : Open) → Held b o → 290 ≤ n + b.parts + length o.places → Passes Form Quiet (λ (i : ℕ) z. Grown b o z) (λ c. f c b o)

-- what is known after a formula, from what is known after its last part
after_part : (b b₁ : Body) (o : Open) (z : Body × Open) (b₂ : Body) → b.parts ≤ b₁.parts → Grown b₁ o z → b₂.parts ≡ z.0.parts → Grown b o (b₂, z.1)
after_part b b₁ o z b₂ m g q = record { more = omega (arith, m, g.more, q); some = omega (arith, g.some, q); few = omega (arith, g.few, q); same = g.same }

module _ (n : ℕ) (e : Expressions) (E : PassWholes n e) (f : Formulas) (F : PassForms n f) where
  pass_prefixed : (x : Prefix) (p : ℕ) (b : Body) (o : Open) → Held b o → 290 ≤ suc n + b.parts + length o.places → Passes Form Quiet (λ (i : ℕ) z. Grown b o z) (λ c. prefixed f x p c b o)
  pass_prefixed x p b o h l =
      passes_alter (counted p b) (sized_counted p b) (λ _ b₁ c. then (f c b₁ o) (λ i c₂ b₂ o₂. settle (node.Prefixed x i) p c₂ b₂ o₂)) (λ _ b₁ m.
      pass_map and_nothing (passes_then (λ i z c₂. settle (node.Prefixed x i) p c₂ z.0 z.1) (λ vs u k _ r. still Quiet vs u k r) (F b₁ o (held_more b b₁ o h m.1) (omega (arith, l, m.0))) (λ i z g.
      pass_settle (node.Prefixed x i) p z.0 z.1 (λ j b₂ q. after_part b b₁ o z b₂ (omega (arith, m.0)) g q))))

  pass_joined : (p : ℕ) (b : Body) (o : Open) → Held b o → 290 ≤ suc n + b.parts + length o.places → Passes Joined Quiet (λ (i : ℕ) z. Grown b o z) (λ c. joined f p c b o)
  pass_joined p b o h l =
      passes_alter (opened p o) (sized_opened p o) (λ _ o₁ c.
      then (f c b o₁) (λ x c₂ b₂ o₂.
      taking (infix_of (head c₂)) c₂ (λ s c₃.
      alter (counted (place_of (head c₂)) b₂) c₃ (λ _ b₃.
      then (f c₃ b₃ o₂) (λ y c₄ b₄ o₄.
      close_joined (node.Joined s x y) c₄ b₄ o₄))))) (λ _ o₁ k.
      let held : Held b o₁ = subst (λ q. Held b q) (sym k.0) (held_open p b o h k.1) in
      let deep : length o₁.places ≡ suc (length o.places) = ap (λ (q : Open). length q.places) k.0 in
      passes_then (λ x z c₂.
      taking (infix_of (head c₂)) c₂ (λ s c₃.
      alter (counted (place_of (head c₂)) z.0) c₃ (λ _ b₃.
      then (f c₃ b₃ z.1) (λ y c₄ b₄ o₄.
      close_joined (node.Joined s x y) c₄ b₄ o₄)))) (λ vs v y t _. (infix_no_mark (head v) mark.Prime (head_is vs v y t), infix_no_mark (head v) mark.Colon (head_is vs v y t))) (F b o₁ held (omega (arith, l, deep))) (λ x z g.
      passes_taking infix_of (λ s i c₃.
      alter (counted (place_of i) z.0) c₃ (λ _ b₃.
      then (f c₃ b₃ z.1) (λ y c₄ b₄ o₄.
      close_joined (node.Joined s x y) c₄ b₄ o₄))) (λ s i.
      passes_alter (counted (place_of i) z.0) (sized_counted (place_of i) z.0) (λ _ b₃ c₃.
      then (f c₃ b₃ z.1) (λ y c₄ b₄ o₄.
      close_joined (node.Joined s x y) c₄ b₄ o₄)) (λ _ b₃ m.
      let again : Held b₃ z.1 = subst (λ q. Held b₃ q) (sym g.same) (held_more b b₃ o₁ held m.1) in
      passes_then (λ y v c₄. close_joined (node.Joined s x y) c₄ v.0 v.1) (λ vs v y t _. (other_mark mark.CloseParen mark.Prime (head v) (head_is vs v (and_nothing vs y) t) refl, other_mark mark.CloseParen mark.Colon (head v) (head_is vs v (and_nothing vs y) t) refl)) (F b₃ z.1 again (omega (arith, l, deep, g.more, m.0, ap (λ (q : Open). length q.places) g.same))) (λ y v g₂.
      pass_map and_nothing (passes_closing p o v.1 mark.CloseParen (λ p o₁ c₁. settle (node.Joined s x y) p c₁ v.0 o₁) (g₂.same ∙ g.same ∙ k.0) (
      pass_settle (node.Joined s x y) p v.0 o (λ j b₂ q. record { more = omega (arith, g.more, m.0, g₂.more, q); some = omega (arith, g₂.some, q); few = omega (arith, g₂.few, q); same = refl }))))))))

  pass_tested : (t : Test) (p : ℕ) (b₀ b : Body) (o : Open) → b₀.parts ≤ b.parts → Held b o → 289 ≤ n + b.parts + length o.places → Passes Exp Quiet (λ (i : ℕ) z. Grown b₀ o z) (λ c. tested e t p c b o)
  pass_tested t p b₀ b o m h l =
      pass_map and_nothing (passes_then (λ i z c₁. settle (node.Tested t i) p c₁ z.0 z.1) (λ vs u k _ r. (still Quiet vs u k r).0) (E None b o h l) (λ i z g.
      pass_settle (node.Tested t i) p z.0 z.1 (λ j b₂ q. after_part b₀ b o z b₂ m g q)))

  pass_compared : (b : Body) (o : Open) → Held b o → 289 ≤ n + b.parts + length o.places → Passes Compared Quiet (λ (i : ℕ) z. Grown b o z) (λ c. compared e c b o)
  pass_compared b o h l =
      record {
        of = λ us c k t₀ s₀ r₀. let p = place_of (head c) in
            passed_then {R = Quiet} (λ x z c₁.
            taking (comparison_of (head c₁)) c₁ (λ s c₂.
            alter (counted (place_of (head c₁)) z.0) c₂ (λ _ b₂.
            then (e (Some (wish (arity_in x b₂) p)) c₂ b₂ z.1) (λ y c₃ b₃ o₃.
            settle (node.Compared s x y) p c₃ b₃ o₃)))) us c k t₀ s₀ r₀ (λ vs v y t _. comparison_no_mark (head v) mark.Prime (head_is vs v y t)) (E None b o h l) (λ x z g.
            passes_taking comparison_of (λ s i c₂.
            alter (counted (place_of i) z.0) c₂ (λ _ b₂.
            then (e (Some (wish (arity_in x b₂) p)) c₂ b₂ z.1) (λ y c₃ b₃ o₃.
            settle (node.Compared s x y) p c₃ b₃ o₃))) (λ s i.
            passes_alter (counted (place_of i) z.0) (sized_counted (place_of i) z.0) (λ _ b₂ c₂.
            then (e (Some (wish (arity_in x b₂) p)) c₂ b₂ z.1) (λ y c₃ b₃ o₃.
            settle (node.Compared s x y) p c₃ b₃ o₃)) (λ _ b₂ m.
            let again : Held b₂ z.1 = subst (λ q. Held b₂ q) (sym g.same) (held_more b b₂ o h m.1) in
            pass_map and_nothing (passes_then (λ y v c₃. settle (node.Compared s x y) p c₃ v.0 v.1) (λ vs u k _ r. (still Quiet vs u k r).0) (E (Some (wish (arity_in x b₂) p)) b₂ z.1 again (omega (arith, l, g.more, m.0, ap (λ (q : Open). length q.places) g.same))) (λ y v g₂.
            pass_settle (node.Compared s x y) p v.0 v.1 (λ j b₄ q. record { more = omega (arith, g.more, m.0, g₂.more, q); some = omega (arith, g₂.some, q); few = omega (arith, g₂.few, q); same = g₂.same ∙ g.same }))))));
      }

  pass_scope : (q : Quantifier) (p : ℕ) (x : List ℕ) (r d : ℕ) (b₀ b : Body) (o : Open) → b₀.parts ≤ b.parts → Held b o → 290 ≤ n + b.parts + length o.places → Passes Form Quiet (λ (i : ℕ) z. Grown b₀ o z) (λ c. scope f q p x r d c b o)
  pass_scope q p x r d b₀ b o m h l =
      passes_alter (bound x r b) (sized_bound x r b) (λ v b₁ c. then (f c b₁ o) (λ i c₂ b₂ o₂. settle (node.Quantified q v d i) p c₂ (unbound b₂) o₂)) (λ v b₁ k.
      pass_map and_nothing (passes_then (λ i z c₂. settle (node.Quantified q v d i) p c₂ (unbound z.0) z.1) (λ vs u k _ r. still Quiet vs u k r) (F b₁ o (held_more b b₁ o h (omega (arith, h.few, k))) (omega (arith, l, k))) (λ i z g.
      pass_settle (node.Quantified q v d i) p (unbound z.0) z.1 (λ j b₂ q. after_part b₀ b₁ o z b₂ (omega (arith, m, k)) g (q ∙ unbound_parts z.0)))))

  pass_range : (q : Quantifier) (p : ℕ) (x : List ℕ) (r : ℕ) (b₀ b : Body) (o : Open) → b₀.parts ≤ b.parts → Held b o → 290 ≤ n + b.parts + length o.places → Passes Ranged Quiet (λ (i : ℕ) z. Grown b₀ o z) (λ c. range e f q p x r c b o)
  pass_range q p x r b₀ b o m h l =
      record {
        of = λ us c k t₀ s₀ r₀. passed_then {R = Quiet} (λ d z c₂. take mark.Bar c₂ (λ _ c₃. scope f q p x r d c₃ z.0 z.1)) us c k t₀ s₀ r₀ (λ vs v y t _. other_mark mark.Bar mark.Prime (head v) (head_is vs v y t) refl) (E (Some (wish 1 (place_of (head c)))) b o h (omega (arith, l))) (λ d z g.
            let again : Held z.0 z.1 = subst (λ q. Held z.0 q) (sym g.same) (held_more b z.0 o h g.few) in
            let same : length z.1.places ≡ length o.places = ap (λ (q : Open). length q.places) g.same in
            passes_take mark.Bar (λ _ c₃. scope f q p x r d c₃ z.0 z.1) (λ _.
            subst (λ q₁. Passes Form Quiet (λ (i : ℕ) v. Grown b₀ q₁ v) (λ c₃. scope f q p x r d c₃ z.0 z.1)) g.same (pass_scope q p x r d b₀ z.0 z.1 (omega (arith, m, g.more)) again (omega (arith, l, g.more, same)))));
      }

  pass_domain : (q : Quantifier) (p : ℕ) (x : List ℕ) (r : ℕ) (b₀ b : Body) (o : Open) → b₀.parts ≤ b.parts → Held b o → 290 ≤ n + b.parts + length o.places → Passes Domain Quiet (λ (i : ℕ) z. Grown b₀ o z) (λ c. domain e f q p x r c b o)
  pass_domain q p x r b₀ b o m h l =
      passes_check (bindable x r b) (late_bindable x r b) (λ _ c. take mark.Colon c (λ _ c₁. range e f q p x r c₁ b o)) (λ _.
      passes_take mark.Colon (λ _ c₁. range e f q p x r c₁ b o) (λ _. pass_range q p x r b₀ b o m h l))

  pass_all : (p : ℕ) (b₀ b : Body) (o : Open) → b₀.parts ≤ b.parts → Held b o → 290 ≤ n + b.parts + length o.places → Passes (Then (One IsName) Domain) Quiet (λ (i : ℕ) z. Grown b₀ o z) (λ c. all e f p c b o)
  pass_all p b₀ b o m h l = passes_taking name_of (λ x i c₁. domain e f quantifier.All p x (place_of i) c₁ b o) (λ x i. pass_domain quantifier.All p x (place_of i) b₀ b o m h l)

  -- after "some", a name and a ":"
  passed_bound : (p : ℕ) (b₀ b : Body) (o : Open) (us : List Item) (c : Cursor) → b₀.parts ≤ b.parts → Held b o → 290 ≤ n + b.parts + length o.places → Then (One IsName) Domain us → length us ≤ most_text → Stands us c → Quiet (past us c) → Passed (λ (i : ℕ) z. Grown b₀ o z) (past us c) (some e f after_name p c b o)
  passed_bound p b₀ b o us c m h l k t s r =
      let x = head_is us c k s in
      subst (λ y. Passed (λ (i : ℕ) z. Grown b₀ o z) (past us c) (some_by y e f after_name p c b o)) (sym x.1)
      (passed_next {R = Quiet} us c k t s r {r = λ v. some_named e f after_name quantifier.Some p x.0 (place_of (head c)) v b o} (record {
        of = λ vs v w t₁ s₁ r₁.
            pass_cond (is_mark mark.Colon (head v)) true (check (bindable x.0 (place_of (head c)) b) (step v) (λ _. range e f quantifier.Some p x.0 (place_of (head c)) (step v) b o)) (then (after_name x.0 (place_of (head c)) v b o) (λ i c₁ b₁ o₁. settle (node.Tested test.Some i) p c₁ b₁ o₁)) (head_is vs v w s₁)
            (passed_next {R = Quiet} vs v w t₁ s₁ r₁ {r = λ u. check (bindable x.0 (place_of (head c)) b) u (λ _. range e f quantifier.Some p x.0 (place_of (head c)) u b o)} (
            passes_check (bindable x.0 (place_of (head c)) b) (late_bindable x.0 (place_of (head c)) b) (λ _ u. range e f quantifier.Some p x.0 (place_of (head c)) u b o) (λ _. pass_range quantifier.Some p x.0 (place_of (head c)) b₀ b o m h l)));
      }))

  -- after "some", an expression
  no_colon : (ws : List Item) (u : Cursor) → Many (One (Is mark.Prime)) ws → Stands ws u → Quiet (past ws u) → is_mark mark.Colon (head u) ≡ false
  no_colon ws u no_more s r = r.1
  no_colon ws u (one_more {us = vs} {vs = xs} y m) s r = other_mark mark.Prime mark.Colon (head u) (head_is vs u (and_nothing vs y) (stands_front vs xs u s)) refl

  passed_named : (p : ℕ) (b₀ b : Body) (o : Open) (vs ws : List Item) (c : Cursor) → b₀.parts ≤ b.parts → Held b o → One IsName vs → Many (One (Is mark.Prime)) ws → length (vs ++ ws) ≤ most_text → Stands (vs ++ ws) c → Quiet (past (vs ++ ws) c) → Passed (λ (i : ℕ) z. Grown b₀ o z) (past (vs ++ ws) c) (some e f after_name p c b o)
  passed_named p b₀ b o vs ws c m h y primes t s r =
      let k : Then (One IsName) (Many (One (Is mark.Prime))) (vs ++ ws) = record { left = vs; right = ws; is = refl; one = y; two = primes } in
      let x = head_is (vs ++ ws) c k s in
      subst (λ y. Passed (λ (i : ℕ) z. Grown b₀ o z) (past (vs ++ ws) c) (some_by y e f after_name p c b o)) (sym x.1)
      (passed_next {R = Quiet} (vs ++ ws) c k t s r {r = λ v. some_named e f after_name quantifier.Some p x.0 (place_of (head c)) v b o} (record {
        of = λ us v w t₁ s₁ r₁.
            pass_cond (is_mark mark.Colon (head v)) false (check (bindable x.0 (place_of (head c)) b) (step v) (λ _. range e f quantifier.Some p x.0 (place_of (head c)) (step v) b o)) (then (after_name x.0 (place_of (head c)) v b o) (λ i c₁ b₁ o₁. settle (node.Tested test.Some i) p c₁ b₁ o₁)) (no_colon us v w s₁ r₁)
            ((pass_map and_nothing (passes_then {R = Quiet} (λ i z c₁. settle (node.Tested test.Some i) p c₁ z.0 z.1) (λ vs u k _ r. (still Quiet vs u k r).0) (pass_after_name x.0 (place_of (head c)) b o h) (λ i z g.
            pass_settle (node.Tested test.Some i) p z.0 z.1 (λ j b₂ q. after_part b₀ b o z b₂ m g q)))).of us v w t₁ s₁ r₁);
      }))

  passed_unnamed : (p : ℕ) (b₀ b : Body) (o : Open) (us : List Item) (c : Cursor) → b₀.parts ≤ b.parts → Held b o → 290 ≤ n + b.parts + length o.places → Exp us → length us ≤ most_text → Stands us c → Quiet (past us c) → name_of (head c) ≡ None → Passed (λ (i : ℕ) z. Grown b₀ o z) (past us c) (some e f after_name p c b o)
  passed_unnamed p b₀ b o us c m h l x t s r y =
      subst (λ y. Passed (λ (i : ℕ) z. Grown b₀ o z) (past us c) (some_by y e f after_name p c b o)) (sym y) ((pass_tested test.Some p b₀ b o m h (omega (arith, l))).of us c x t s r)

  passed_some : (p : ℕ) (b₀ b : Body) (o : Open) (us : List Item) (c : Cursor) → b₀.parts ≤ b.parts → Held b o → 290 ≤ n + b.parts + length o.places → Exp us → length us ≤ most_text → Stands us c → Quiet (past us c) → Passed (λ (i : ℕ) z. Grown b₀ o z) (past us c) (some e f after_name p c b o)
  passed_some p b₀ b o us c m h l (e_part {us = vs} {vs = ws} (p_name y) primes) t s r = passed_named p b₀ b o vs ws c m h y primes t s r
  passed_some p b₀ b o us c m h l (e_part {us = vs} {vs = ws} (p_constant y) primes) t s r = passed_unnamed p b₀ b o us c m h l (e_part (p_constant y) primes) t s r (constant_no_name (head c) (head_is vs c (and_nothing vs y) (stands_front vs ws c s)))
  passed_some p b₀ b o us c m h l (e_part {vs = ws} (p_turned i {us = xs} y g) primes) t s r = passed_unnamed p b₀ b o us c m h l (e_part (p_turned i y g) primes) t s r (subst (λ j. name_of j ≡ None) (sym s.0) (turn_no_name i y))
  passed_some p b₀ b o us c m h l (e_part {vs = ws} (p_bracketed i j k x a y d z) primes) t s r = passed_unnamed p b₀ b o us c m h l (e_part (p_bracketed i j k x a y d z) primes) t s r (subst (λ j. name_of j ≡ None) (sym s.0) (bracket_no_name i x))

  -- what an expression begins with begins no other formula
  part_start : (us : List Item) (c : Cursor) → Part us → Stands us c → start_of (head c) ≡ start.Expression
  part_start us c (p_name y) s = name_start (head c) (head_is us c (and_nothing us y) s)
  part_start us c (p_constant y) s = constant_start (head c) (head_is us c (and_nothing us y) s)
  part_start us c (p_turned i y g) s = subst (λ j. start_of j ≡ start.Expression) (sym s.0) (turn_start i y)
  part_start us c (p_bracketed i j k x a y d z) s = subst (λ j. start_of j ≡ start.Expression) (sym s.0) (bracket_start i x)

  exp_start : (us vs : List Item) (c : Cursor) → Exp us → Stands (us ++ vs) c → start_of (head c) ≡ start.Expression
  exp_start us vs c (e_part {us = xs} {vs = ws} p m) s = part_start xs c p (stands_front xs ws c (stands_front (xs ++ ws) vs c s))

  -- F, by what it begins with
  by_start : (b : Body) (o : Open) (us : List Item) (c : Cursor) (y : Start) → start_of (head c) ≡ y → Passed (λ (i : ℕ) z. Grown b o z) (past us c) (beginning e after_name f y c b o) → Passed (λ (i : ℕ) z. Grown b o z) (past us c) (begun e after_name f c b o)
  by_start b o us c y q p = subst (λ y. Passed (λ (i : ℕ) z. Grown b o z) (past us c) (beginning e after_name f y c b o)) (sym q) p

  first : {H : Shape} {P : Item → Type 0} (i : Item) (us : List Item) → P i → H us → Then (One P) H (i ∷ us)
  first i us p h = record { left = i ∷ []; right = us; is = refl; one = record { item = i; is = refl; holds = p }; two = h }

  passed_form : (b : Body) (o : Open) → Held b o → 290 ≤ suc n + b.parts + length o.places → (us : List Item) (c : Cursor) → Form us → length us ≤ most_text → Stands us c → Quiet (past us c) → Passed (λ (i : ℕ) z. Grown b o z) (past us c) (begun e after_name f c b o)
  passed_form b o h l us c (f_prefixed i {us = vs} x g) t s r =
      let k : Then (One IsPrefix) Form us = first i vs x g in
      let y = head_is us c k s in
      by_start b o us c (start.Prefix y.0) y.1 (passed_next {R = Quiet} us c k t s r (pass_prefixed y.0 (place_of (head c)) b o h l))
  passed_form b o h l us c (f_joined i j k {us = vs} {vs = ws} x g y d z) t s r =
      let q : Then (One (λ i. start_of i ≡ start.Open)) Joined us = first i (vs ++ (j ∷ (ws ++ (k ∷ [])))) x (record { left = vs; right = j ∷ (ws ++ (k ∷ [])); is = refl; one = g; two = first j (ws ++ (k ∷ [])) y (record { left = ws; right = k ∷ []; is = refl; one = d; two = record { item = k; is = refl; holds = z } }) }) in
      by_start b o us c start.Open (head_is us c q s) (passed_next {R = Quiet} us c q t s r (pass_joined (place_of (head c)) b o h l))
  passed_form b o h l us c (f_all i j k v {us = vs} {vs = ws} x y z d w g) t s r =
      let q : Then (One (λ i. start_of i ≡ start.All)) (Then (One IsName) Domain) us = first i (j ∷ (k ∷ (vs ++ (v ∷ ws)))) x (first j (k ∷ (vs ++ (v ∷ ws))) y (first k (vs ++ (v ∷ ws)) z (record { left = vs; right = v ∷ ws; is = refl; one = d; two = first v ws w g }))) in
      by_start b o us c start.All (head_is us c q s) (passed_next {R = Quiet} us c q t s r (passes_alter (counted (place_of (head c)) b) (sized_counted (place_of (head c)) b) (λ _ b₁ u. all e f (place_of (head c)) u b₁ o) (λ _ b₁ m. pass_all (place_of (head c)) b b₁ o (omega (arith, m.0)) (held_more b b₁ o h m.1) (omega (arith, l, m.0)))))
  passed_form b o h l us c (f_some i j k v {us = vs} {vs = ws} x y z d w g) t s r =
      let q : Then (One (λ i. start_of i ≡ start.Some)) (Then (One IsName) Domain) us = first i (j ∷ (k ∷ (vs ++ (v ∷ ws)))) x (first j (k ∷ (vs ++ (v ∷ ws))) y (first k (vs ++ (v ∷ ws)) z (record { left = vs; right = v ∷ ws; is = refl; one = d; two = first v ws w g }))) in
      by_start b o us c start.Some (head_is us c q s) (passed_next {R = Quiet} us c q t s r (passes_alter (counted (place_of (head c)) b) (sized_counted (place_of (head c)) b) (λ _ b₁ u. some e f after_name (place_of (head c)) u b₁ o) (λ _ b₁ m. record { of = λ xs u a t₁ s₁ r₁. passed_bound (place_of (head c)) b b₁ o xs u (omega (arith, m.0)) (held_more b b₁ o h m.1) (omega (arith, l, m.0)) a t₁ s₁ r₁ })))
  passed_form b o h l us c (f_is_some i {us = vs} x g) t s r =
      let q : Then (One (λ i. start_of i ≡ start.Some)) Exp us = first i vs x g in
      by_start b o us c start.Some (head_is us c q s) (passed_next {R = Quiet} us c q t s r (passes_alter (counted (place_of (head c)) b) (sized_counted (place_of (head c)) b) (λ _ b₁ u. some e f after_name (place_of (head c)) u b₁ o) (λ _ b₁ m. record { of = λ xs u a t₁ s₁ r₁. passed_some (place_of (head c)) b b₁ o xs u (omega (arith, m.0)) (held_more b b₁ o h m.1) (omega (arith, l, m.0)) a t₁ s₁ r₁ })))
  passed_form b o h l us c (f_is_no i {us = vs} x g) t s r =
      let q : Then (One (λ i. start_of i ≡ start.No)) Exp us = first i vs x g in
      by_start b o us c start.No (head_is us c q s) (passed_next {R = Quiet} us c q t s r (passes_alter (counted (place_of (head c)) b) (sized_counted (place_of (head c)) b) (λ _ b₁ u. tested e test.No (place_of (head c)) u b₁ o) (λ _ b₁ m. pass_tested test.No (place_of (head c)) b b₁ o (omega (arith, m.0)) (held_more b b₁ o h m.1) (omega (arith, l, m.0)))))
  passed_form b o h l us c (f_compared j {us = vs} {vs = ws} g y d) t s r =
      by_start b o us c start.Expression (exp_start vs (j ∷ ws) c g s) ((pass_compared b o h (omega (arith, l))).of us c (record { left = vs; right = j ∷ ws; is = refl; one = g; two = first j ws y d }) t s r)

pub pass_formula : (n : ℕ) → PassForms n (formula n)
unfolding formula
pass_formula zero b o h l = absurd (omega (arith, l, h.few, h.room))
pass_formula (suc n) b o h l = record { of = λ us c g t s r. passed_form n (expression n) (pass_expression n) (formula n) (pass_formula n) b o h l us c g t s r }
