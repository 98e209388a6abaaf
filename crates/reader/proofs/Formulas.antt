-- How each production of a formula tells.
use Rattle.std.specs.Prelude.{nat_lt, length, ◌⊎◌}
use Rattle.std.proofs.Common.{◌≡◌, ℕ, zero, suc, Bool, true, false, cond, List, [], ◌∷◌, ◌++◌, Some, None, Ok, Err, Option, refl, inl, inr}
use Rattle.faults.specs.declared.Fault.TheVariants as fault
use Rattle.problem.specs.declared.node.Node.{Node}
use Rattle.problem.specs.declared.node.Node.TheVariants as node
use Rattle.problem.specs.declared.node.Prefix.{Prefix}
use Rattle.problem.specs.declared.node.Infix.TheVariants as between
use Rattle.problem.specs.declared.node.Test.{Test}
use Rattle.problem.specs.declared.node.Test.TheVariants as test
use Rattle.problem.specs.declared.node.Comparison.TheVariants as comparison
use Rattle.problem.specs.declared.node.Quantifier.{Quantifier}
use Rattle.problem.specs.declared.node.Quantifier.TheVariants as quantifier
use Rattle.problem.specs.declared.sort.Kind.TheVariants as kind
use Rattle.problem.specs.Sorts.{most_variables}
use Rattle.tokens.specs.declared.token.Word.TheVariants as words
use Rattle.tokens.specs.declared.mark.Mark.TheVariants as mark
use Rattle.tokens.specs.Lexing.{word}
use Rattle.tokens.specs.Items.{Item, at, place_of, name_of, is_mark}
use Rattle.tokens.specs.Cursors.{Cursor, head, step}
use Rattle.tokens.specs.Outcomes.{take, taking, check, changed, unfit, alter}
use Rattle.formulas.specs.declared.start.Start.{Start}
use Rattle.formulas.specs.declared.start.Start.TheVariants as start
use Rattle.formulas.specs.Bodies.{Body, Open}
use Rattle.formulas.specs.Starts.{start_of, infix_of, comparison_of}
use Rattle.formulas.specs.Outcomes.{ok, then, counted, putting, arity_in, known, bindable, bound, scoped, unbound, opened}
use Rattle.formulas.specs.Expressions.{wish, expression, after_name}
use Rattle.formulas.specs.Formulas.{Formulas, Expressions, settle, prefixed, close_joined, joined, tested, compared, scope, range, domain, all, some_named, some_by, some, beginning, formula, begun}
use Rattle.reader.specs.Grammar.{Is, IsName, IsPrefix, IsInfix, IsComparison, One, Then, Many, Exp, e_part, p_name, Form, f_prefixed, f_joined, f_all, f_some, f_is_some, f_is_no, f_compared}
use Rattle.reader.proofs.Telling.{Shape, Full, onward as looks_on, starts, soft, free, Told, Tells, Late, passes, refuses, LateChange, alters, keeps, gentle_late, full_one, full_mark, full_name, full_then, tell_ok, tell_refused, tell_check, tell_alter, tell_gentle, tell_take, tell_taking, tell_either, tell_map, told_map, told_next, told_by, tell_by, tell_then}
use Rattle.reader.proofs.Declaring.{ends}
use Rattle.reader.proofs.Expressions.{Nothing, Wholes, full_exp, gentle_counted, gentle_putting, late_opened, tell_closing, tell_expression, tell_after_name}

-- refusals that are no tokens'

pub late_bindable : (x : List ℕ) (p : ℕ) (b : Body) → Late (bindable x p b)
unfolding bindable
late_bindable x p b = go (known x b) (nat_lt (length b.scope) most_variables)
  where
    go : (k t : Bool) → Late {X = Unit {0}} (cond k (Err (fault.NameKnown p)) (cond t (Ok tt) (Err (fault.OverLimit p))))
    go true t = refuses refl
    go false true = passes
    go false false = refuses refl

late_bound : (x : List ℕ) (p : ℕ) (b : Body) → LateChange (bound x p b)
unfolding bound
late_bound x p b = go (nat_lt (length b.scope) most_variables)
  where
    go : (t : Bool) → LateChange {Z = Body} {X = ℕ} (cond t (changed (length b.scope) (scoped (b.scope ++ x ∷ []) b)) (unfit (fault.OverLimit p)))
    go true = alters
    go false = keeps refl

-- examples

pub full_form : Full Form
unfolding start_of
full_form = (at (word words.No) 0 ∷ full_exp.0, f_is_no (at (word words.No) 0) refl full_exp.1)

full_infix : Full (One IsInfix)
unfolding infix_of
full_infix = full_one (at (word (words.Infix between.And)) 0) (between.And, refl)

full_comparison : Full (One IsComparison)
unfolding comparison_of
full_comparison = full_one (at (word words.In) 0) (comparison.In, refl)

tell_settle : (n : Node) (p : ℕ) (b : Body) (o : Open) → Tells soft looks_on Nothing (λ c. settle n p c b o)
tell_settle n p b o = tell_gentle (putting kind.Formula n p b) (gentle_putting kind.Formula n p b) (λ i b₁ c. ok i c b₁ o) (λ i b₁. tell_ok i (b₁, o) tt refl)

-- rows of tokens

abbrev pub Joined : Shape
Joined = Then Form (Then (One IsInfix) (Then Form (One (Is mark.CloseParen))))

abbrev pub Ranged : Shape
Ranged = Then Exp (Then (One (Is mark.Bar)) Form)

abbrev pub Domain : Shape
Domain = Then (One (Is mark.Colon)) Ranged

abbrev pub Compared : Shape
Compared = Then Exp (Then (One IsComparison) Exp)

-- after "some" NAME, and after "some"
abbrev pub Named : Shape
Named us = Domain us ⊎ Many (One (Is mark.Prime)) us

abbrev pub Somehow : Shape
Somehow us = Exp us ⊎ Then (One IsName) Domain us

full_right : Full (Then Form (One (Is mark.CloseParen)))
full_right = full_then full_form (full_mark mark.CloseParen)

full_body : Full (Then (One (Is mark.Bar)) Form)
full_body = full_then (full_mark mark.Bar) full_form

full_ranged : Full Ranged
full_ranged = full_then full_exp full_body

-- what a reader of a formula has seen
abbrev pub Reads : Formulas → Type 0
Reads f = (b : Body) (o : Open) → Tells starts looks_on Form (λ c. f c b o)

module _ (e : Expressions) (E : Wholes e) (f : Formulas) (F : Reads f) where
  tell_prefixed : (x : Prefix) (p : ℕ) (b : Body) (o : Open) → Tells free looks_on Form (λ c. prefixed f x p c b o)
  tell_prefixed x p b o =
      tell_alter (counted p b) (gentle_late (gentle_counted p b)) (λ _ b₁ c. then (f c b₁ o) (λ i c₂ b₂ o₂. settle (node.Prefixed x i) p c₂ b₂ o₂)) (λ _ b₁.
      tell_map ends (tell_then (λ i z c₂. settle (node.Prefixed x i) p c₂ z.0 z.1) tt tt (F b₁ o) ([], refl) (λ i z. tell_settle (node.Prefixed x i) p z.0 z.1)))

  tell_close : (n : Node) (b : Body) (o : Open) → Tells starts looks_on (One (Is mark.CloseParen)) (λ c. close_joined n c b o)
  tell_close n b o = tell_map ends (tell_closing o mark.CloseParen ([], refl) (λ p o₁ c₁. settle n p c₁ b o₁) (λ p o₁. tell_settle n p b o₁))

  tell_joined : (p : ℕ) (b : Body) (o : Open) → Tells free looks_on Joined (λ c. joined f p c b o)
  tell_joined p b o =
      tell_alter (opened p o) (late_opened p o) (λ _ o₁ c.
      then (f c b o₁) (λ x c₂ b₂ o₂.
      taking (infix_of (head c₂)) c₂ (λ s c₃.
      alter (counted (place_of (head c₂)) b₂) c₃ (λ _ b₃.
      then (f c₃ b₃ o₂) (λ y c₄ b₄ o₄.
      close_joined (node.Joined s x y) c₄ b₄ o₄))))) (λ _ o₁.
      tell_then (λ x z c₂.
      taking (infix_of (head c₂)) c₂ (λ s c₃.
      alter (counted (place_of (head c₂)) z.0) c₃ (λ _ b₃.
      then (f c₃ b₃ z.1) (λ y c₄ b₄ o₄.
      close_joined (node.Joined s x y) c₄ b₄ o₄)))) tt tt (F b o₁) (full_then full_infix full_right) (λ x z.
      tell_taking infix_of full_infix full_right (λ s i c₃.
      alter (counted (place_of i) z.0) c₃ (λ _ b₃.
      then (f c₃ b₃ z.1) (λ y c₄ b₄ o₄.
      close_joined (node.Joined s x y) c₄ b₄ o₄))) (λ s i.
      tell_alter (counted (place_of i) z.0) (gentle_late (gentle_counted (place_of i) z.0)) (λ _ b₃ c₃.
      then (f c₃ b₃ z.1) (λ y c₄ b₄ o₄.
      close_joined (node.Joined s x y) c₄ b₄ o₄)) (λ _ b₃.
      tell_then (λ y v c₄. close_joined (node.Joined s x y) c₄ v.0 v.1) tt tt (F b₃ z.1) (full_mark mark.CloseParen) (λ y v.
      tell_close (node.Joined s x y) v.0 v.1)))))

  tell_tested : (t : Test) (p : ℕ) (b : Body) (o : Open) → Tells starts looks_on Exp (λ c. tested e t p c b o)
  tell_tested t p b o = tell_map ends (tell_then (λ i z c₁. settle (node.Tested t i) p c₁ z.0 z.1) tt tt (E None b o) ([], refl) (λ i z. tell_settle (node.Tested t i) p z.0 z.1))

  tell_compared : (b : Body) (o : Open) → Tells starts looks_on Compared (λ c. compared e c b o)
  tell_compared b o =
      tell_by place_of (λ p c.
      then (e None c b o) (λ x c₁ b₁ o₁.
      taking (comparison_of (head c₁)) c₁ (λ s c₂.
      alter (counted (place_of (head c₁)) b₁) c₂ (λ _ b₂.
      then (e (Some (wish (arity_in x b₂) p)) c₂ b₂ o₁) (λ y c₃ b₃ o₃.
      settle (node.Compared s x y) p c₃ b₃ o₃))))) (λ p.
      tell_then (λ x z c₁.
      taking (comparison_of (head c₁)) c₁ (λ s c₂.
      alter (counted (place_of (head c₁)) z.0) c₂ (λ _ b₂.
      then (e (Some (wish (arity_in x b₂) p)) c₂ b₂ z.1) (λ y c₃ b₃ o₃.
      settle (node.Compared s x y) p c₃ b₃ o₃)))) tt tt (E None b o) (full_then full_comparison full_exp) (λ x z.
      tell_taking comparison_of full_comparison full_exp (λ s i c₂.
      alter (counted (place_of i) z.0) c₂ (λ _ b₂.
      then (e (Some (wish (arity_in x b₂) p)) c₂ b₂ z.1) (λ y c₃ b₃ o₃.
      settle (node.Compared s x y) p c₃ b₃ o₃))) (λ s i.
      tell_alter (counted (place_of i) z.0) (gentle_late (gentle_counted (place_of i) z.0)) (λ _ b₂ c₂.
      then (e (Some (wish (arity_in x b₂) p)) c₂ b₂ z.1) (λ y c₃ b₃ o₃.
      settle (node.Compared s x y) p c₃ b₃ o₃)) (λ _ b₂.
      tell_map ends (tell_then (λ y v c₃. settle (node.Compared s x y) p c₃ v.0 v.1) tt tt (E (Some (wish (arity_in x b₂) p)) b₂ z.1) ([], refl) (λ y v.
      tell_settle (node.Compared s x y) p v.0 v.1))))))

  tell_scope : (q : Quantifier) (p : ℕ) (x : List ℕ) (r d : ℕ) (b : Body) (o : Open) → Tells free looks_on Form (λ c. scope f q p x r d c b o)
  tell_scope q p x r d b o =
      tell_alter (bound x r b) (late_bound x r b) (λ v b₁ c. then (f c b₁ o) (λ i c₂ b₂ o₂. settle (node.Quantified q v d i) p c₂ (unbound b₂) o₂)) (λ v b₁.
      tell_map ends (tell_then (λ i z c₂. settle (node.Quantified q v d i) p c₂ (unbound z.0) z.1) tt tt (F b₁ o) ([], refl) (λ i z. tell_settle (node.Quantified q v d i) p (unbound z.0) z.1)))

  tell_range : (q : Quantifier) (p : ℕ) (x : List ℕ) (r : ℕ) (b : Body) (o : Open) → Tells starts looks_on Ranged (λ c. range e f q p x r c b o)
  tell_range q p x r b o =
      tell_by place_of (λ s c. then (e (Some (wish 1 s)) c b o) (λ d c₂ b₂ o₂. take mark.Bar c₂ (λ _ c₃. scope f q p x r d c₃ b₂ o₂))) (λ s.
      tell_then (λ d z c₂. take mark.Bar c₂ (λ _ c₃. scope f q p x r d c₃ z.0 z.1)) tt tt (E (Some (wish 1 s)) b o) full_body (λ d z.
      tell_take mark.Bar full_form (λ _ c₃. scope f q p x r d c₃ z.0 z.1) (λ _. tell_scope q p x r d z.0 z.1)))

  tell_domain : (q : Quantifier) (p : ℕ) (x : List ℕ) (r : ℕ) (b : Body) (o : Open) → Tells free looks_on Domain (λ c. domain e f q p x r c b o)
  tell_domain q p x r b o =
      tell_check (bindable x r b) (late_bindable x r b) (λ _ c. take mark.Colon c (λ _ c₁. range e f q p x r c₁ b o)) (λ _.
      tell_take mark.Colon full_ranged (λ _ c₁. range e f q p x r c₁ b o) (λ _. tell_range q p x r b o))

  tell_all : (p : ℕ) (b : Body) (o : Open) → Tells starts looks_on (Then (One IsName) Domain) (λ c. all e f p c b o)
  tell_all p b o = tell_taking name_of full_name (full_then (full_mark mark.Colon) full_ranged) (λ x i c₁. domain e f quantifier.All p x (place_of i) c₁ b o) (λ x i. tell_domain quantifier.All p x (place_of i) b o)

  tell_some_named : (q : Quantifier) (p : ℕ) (x : List ℕ) (r : ℕ) (b : Body) (o : Open) → Tells soft looks_on Named (λ c. some_named e f after_name q p x r c b o)
  tell_some_named q p x r b o =
      tell_either (is_mark mark.Colon) (λ c. check (bindable x r b) (step c) (λ _. range e f q p x r (step c) b o)) (λ c. then (after_name x r c b o) (λ i c₁ b₁ o₁. settle (node.Tested test.Some i) p c₁ b₁ o₁)) (λ c d m. m.1)
      (λ c t. told_map (λ us h. inl h) (told_next (λ _ u. check (bindable x r b) u (λ _. range e f q p x r u b o)) c t ((tell_check (bindable x r b) (late_bindable x r b) (λ _ c₁. range e f q p x r c₁ b o) (λ _. tell_range q p x r b o)).of (step c))))
      (tell_map (λ us h. inr (ends us h)) (tell_then (λ i z c₁. settle (node.Tested test.Some i) p c₁ z.0 z.1) tt tt (tell_after_name x r b o) ([], refl) (λ i z. tell_settle (node.Tested test.Some i) p z.0 z.1)))

  somehow : (us : List Item) → Then (One IsName) Named us → Somehow us
  somehow us h = elim h.two [
    | inl d ↦ inr (record { left = h.left; right = h.right; is = h.is; one = h.one; two = d })
    | inr m ↦ inl (rw h.is (e_part (p_name h.one) m))
  ]

  told_some : (p : ℕ) (b : Body) (o : Open) (c : Cursor) (n : Option (List ℕ)) → name_of (head c) ≡ n → Told starts looks_on Somehow (λ d. some_by n e f after_name p d b o) c (some_by n e f after_name p c b o)
  told_some p b o c None t = told_map (λ us h. inl h) ((tell_tested test.Some p b o).of c)
  told_some p b o c (Some x) t = told_map somehow (told_next (λ i u. some_named e f after_name quantifier.Some p x (place_of i) u b o) c (x, t) ((tell_some_named quantifier.Some p x (place_of (head c)) b o).of (step c)))

  tell_some : (p : ℕ) (b : Body) (o : Open) → Tells starts looks_on Somehow (λ c. some e f after_name p c b o)
  tell_some p b o = record { of = λ c. told_by name_of (λ n d. some_by n e f after_name p d b o) c (told_some p b o c (name_of (head c)) refl) }

  -- rows as formulas

  prefixed_form : (us : List Item) → Then (One IsPrefix) Form us → Form us
  prefixed_form us h = rw (h.is, h.one.is) (f_prefixed h.one.item h.one.holds h.two)

  joined_form : (us : List Item) → Then (One (λ i. start_of i ≡ start.Open)) Joined us → Form us
  joined_form us h =
      let a = h.two in
      let b = a.two in
      let d = b.two in
      rw (h.is, h.one.is, a.is, b.is, b.one.is, d.is, d.two.is) (f_joined h.one.item b.one.item d.two.item h.one.holds a.one b.one.holds d.one d.two.holds)

  all_form : (us : List Item) → Then (One (λ i. start_of i ≡ start.All)) (Then (One IsName) Domain) us → Form us
  all_form us h =
      let a = h.two in
      let b = a.two in
      let d = b.two in
      let g = d.two in
      rw (h.is, h.one.is, a.is, a.one.is, b.is, b.one.is, d.is, g.is, g.one.is) (f_all h.one.item a.one.item b.one.item g.one.item h.one.holds a.one.holds b.one.holds d.one g.one.holds g.two)

  some_form : (us : List Item) → Then (One (λ i. start_of i ≡ start.Some)) Somehow us → Form us
  some_form us h = elim h.two [
    | inl x ↦ rw (h.is, h.one.is) (f_is_some h.one.item h.one.holds x)
    | inr a ↦
        let b = a.two in
        let d = b.two in
        let g = d.two in
        rw (h.is, h.one.is, a.is, a.one.is, b.is, b.one.is, d.is, g.is, g.one.is) (f_some h.one.item a.one.item b.one.item g.one.item h.one.holds a.one.holds b.one.holds d.one g.one.holds g.two)
  ]

  no_form : (us : List Item) → Then (One (λ i. start_of i ≡ start.No)) Exp us → Form us
  no_form us h = rw (h.is, h.one.is) (f_is_no h.one.item h.one.holds h.two)

  compared_form : (us : List Item) → Compared us → Form us
  compared_form us h = rw (h.is, h.two.is, h.two.one.is) (f_compared h.two.one.item h.one h.two.one.holds h.two.two)

  told_beginning : (b : Body) (o : Open) (c : Cursor) (s : Start) → start_of (head c) ≡ s → Told starts looks_on Form (λ d. beginning e after_name f s d b o) c (beginning e after_name f s c b o)
  told_beginning b o c (start.Prefix x) t = told_map prefixed_form (told_next (λ i u. prefixed f x (place_of i) u b o) c (x, t) ((tell_prefixed x (place_of (head c)) b o).of (step c)))
  told_beginning b o c start.Open t = told_map joined_form (told_next (λ i u. joined f (place_of i) u b o) c t ((tell_joined (place_of (head c)) b o).of (step c)))
  told_beginning b o c start.All t = told_map all_form (told_next (λ i u. alter (counted (place_of i) b) u (λ _ b₁. all e f (place_of i) u b₁ o)) c t ((tell_alter (counted (place_of (head c)) b) (gentle_late (gentle_counted (place_of (head c)) b)) (λ _ b₁ c₁. all e f (place_of (head c)) c₁ b₁ o) (λ _ b₁. tell_all (place_of (head c)) b₁ o)).of (step c)))
  told_beginning b o c start.Some t = told_map some_form (told_next (λ i u. alter (counted (place_of i) b) u (λ _ b₁. some e f after_name (place_of i) u b₁ o)) c t ((tell_alter (counted (place_of (head c)) b) (gentle_late (gentle_counted (place_of (head c)) b)) (λ _ b₁ c₁. some e f after_name (place_of (head c)) c₁ b₁ o) (λ _ b₁. tell_some (place_of (head c)) b₁ o)).of (step c)))
  told_beginning b o c start.No t = told_map no_form (told_next (λ i u. alter (counted (place_of i) b) u (λ _ b₁. tested e test.No (place_of i) u b₁ o)) c t ((tell_alter (counted (place_of (head c)) b) (gentle_late (gentle_counted (place_of (head c)) b)) (λ _ b₁ c₁. tested e test.No (place_of (head c)) c₁ b₁ o) (λ _ b₁. tell_tested test.No (place_of (head c)) b₁ o)).of (step c)))
  told_beginning b o c start.Expression t = told_map compared_form ((tell_compared b o).of c)

  tell_begun : Reads (begun e after_name f)
  tell_begun b o = record { of = λ c. told_by start_of (λ s d. beginning e after_name f s d b o) c (told_beginning b o c (start_of (head c)) refl) }

pub tell_formula : (n : ℕ) → Reads (formula n)
unfolding formula
tell_formula zero b o = tell_refused full_form
tell_formula (suc n) b o = tell_begun (expression n) (tell_expression n) (formula n) (tell_formula n) b o
