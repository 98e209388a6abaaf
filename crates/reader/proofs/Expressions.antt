-- How each production of an expression tells.
use Rattle.std.specs.Prelude.{nat_lt, length, ◌==◌, ◌⊎◌}
use Rattle.std.proofs.Common.{◌≡◌, ℕ, zero, suc, ◌≤◌, Bool, true, false, cond, List, [], ◌∷◌, ◌++◌, Some, None, Ok, Err, Option, Result, refl, sym, ap, subst, ◌∙◌, ⊎_elim, arith}
use Rattle.faults.specs.declared.Fault.{Fault}
use Rattle.faults.specs.declared.Fault.TheVariants as fault
use Rattle.names.specs.Lookups.{index_of}
use Rattle.problem.specs.declared.node.Node.{Node}
use Rattle.problem.specs.declared.node.Node.TheVariants as node
use Rattle.problem.specs.declared.node.Turn.{Turn}
use Rattle.problem.specs.declared.node.Constant.{Constant}
use Rattle.problem.specs.declared.sort.Sort.{Sort}
use Rattle.problem.specs.declared.sort.Kind.{Kind as NodeKind}
use Rattle.problem.specs.declared.sort.Kind.TheVariants as kind
use Rattle.problem.specs.declared.sort.Misfit.{Misfit}
use Rattle.problem.specs.declared.sort.Misfit.TheVariants as misfit
use Rattle.problem.specs.Sorts.{placed, most_parts}
use Rattle.tokens.specs.declared.mark.Mark.{Mark}
use Rattle.tokens.specs.declared.mark.Mark.TheVariants as mark
use Rattle.tokens.specs.Items.{Item, place_of, is_mark, refusal}
use Rattle.tokens.specs.Cursors.{Cursor, head, step}
use Rattle.tokens.specs.Outcomes as steps
use Rattle.tokens.specs.Outcomes.{fail, refused, take, taking, check, Change, changed, unfit, alter}
use Rattle.formulas.specs.declared.wish.Wish.{Wish}
use Rattle.formulas.specs.declared.sketch.calls.Meant.{Meant}
use Rattle.formulas.specs.Bodies.{Body, Open}
use Rattle.formulas.specs.Starts.{Head, h_name, h_constant, h_turn, h_open, head_of, operator_of}
use Rattle.formulas.specs.Outcomes.{Outcome, ok, then, asked, unless, next, counted, arities_of, names_of, placing, putting, leafed, as_relation, as_variable, resolved, naming, meant_constant, arity_in, opened, latest, closed, closing}
use Rattle.formulas.specs.Expressions.{Primaries, wish, at_end, settle, named, constant, turned, combined, bracketed, prime, primes, primed, beginning, begun, primary, expression, after_name}
use Rattle.reader.specs.Settled.{after, Alike, Onward, may_be_put_off, Ends}
use Rattle.problem.specs.declared.node.Operator.TheVariants as operator
use Rattle.tokens.specs.declared.token.Sign.{Sign}
use Rattle.tokens.specs.declared.token.Sign.TheVariants as signs
use Rattle.tokens.specs.declared.token.Word.TheVariants as words
use Rattle.tokens.specs.Lexing.{name, word, number, sign, end}
use Rattle.tokens.specs.Items.{at, flaw}
use Rattle.formulas.specs.Starts.{head_of_sign}
use Rattle.reader.specs.Grammar.{Is, IsName, IsConstant, IsTurn, OpensBracket, IsOperator, One, Then, Many, no_more, Part, p_name, p_constant, p_turned, p_bracketed, Exp, e_part}
use Rattle.reader.proofs.Declaring.{ends, many_more}
use Rattle.reader.proofs.Telling.{Shape, Full, Ahead, onward as looks_on, Kind, starts, soft, free, Told, told_ok, told_fail, Tells, LateChange, alters, keeps, Mild, passed, put_off, Gentle, altered, kept, gentle_late, full_one, full_mark, full_name, full_then, full_many, tell_ok, tell_like, tell_refused, tell_alter, tell_mild, tell_gentle, tell_take, tell_taking, tell_where, tell_map, told_map, told_next, told_refused, told_like, told_then, tell_by, tell_then}

-- what the next token may put off

pub mild_asked : (w : Option Wish) (a : ℕ) → Mild (asked w a)
mild_asked None a = passed
mild_asked (Some w) a = go (w.arity == a)
  where
    go : (b : Bool) → Mild {X = Unit {0}} (cond b (Ok tt) (Err (fault.ArityMismatch w.place)))
    go true = passed
    go false = put_off refl

pub gentle_counted : (p : ℕ) (b : Body) → Gentle (counted p b)
unfolding counted
gentle_counted p b = go (nat_lt b.parts most_parts)
  where
    go : (t : Bool) → Gentle {Z = Body} {X = Unit {0}} (cond t (changed tt (record { atoms = b.atoms; relations = b.relations; horizon = b.horizon; nodes = b.nodes; sorts = b.sorts; scope = b.scope; parts = suc b.parts })) (unfit (fault.OverLimit p)))
    go true = altered
    go false = kept refl

pub gentle_putting : (k : NodeKind) (n : Node) (p : ℕ) (b : Body) → Gentle (putting k n p b)
unfolding putting
gentle_putting k n p b = go (placed (arities_of b) b.sorts k (length b.scope) n)
  where
    go : (r : Result Sort Misfit) → Gentle (placing r n p b)
    go (Ok s) = altered
    go (Err misfit.Arity) = kept refl
    go (Err misfit.Past) = kept refl
    go (Err misfit.Room) = kept refl

gentle_unless : {Z X Y : Type 0} {r : Result X Fault} (k : X → Change Z Y) → Mild r → ((x : X) → Gentle (k x)) → Gentle (unless r k)
gentle_unless k (passed {x}) h = h x
gentle_unless k (put_off e) h = kept e

gentle_next : {Z X Y : Type 0} {c : Change Z X} (k : X → Z → Change Z Y) → Gentle c → ((x : X) (z : Z) → Gentle (k x z)) → Gentle (next c k)
gentle_next k (altered {x} {z}) h = h x z
gentle_next k (kept e) h = kept e

gentle_leafed : (m : Meant) (p : ℕ) (u w : Option Wish) (b : Body) → Gentle (leafed m p u w b)
gentle_leafed m p u w b =
    gentle_unless (λ _. unless (asked w m.arity) (λ _. next (counted p b) (λ _ b₁. putting kind.Expression m.node p b₁))) (mild_asked u m.arity) (λ _.
    gentle_unless (λ _. next (counted p b) (λ _ b₁. putting kind.Expression m.node p b₁)) (mild_asked w m.arity) (λ _.
    gentle_next (λ _ b₁. putting kind.Expression m.node p b₁) (gentle_counted p b) (λ _ b₁. gentle_putting kind.Expression m.node p b₁)))

mild_relation : (r : Option ℕ) (p : ℕ) (b : Body) → Mild (as_relation r p b)
mild_relation None p b = put_off refl
mild_relation (Some r) p b = passed

mild_variable : (v : Option ℕ) (x : List ℕ) (p : ℕ) (b : Body) → Mild (as_variable v x p b)
mild_variable None x p b = mild_relation (index_of x (names_of b)) p b
mild_variable (Some v) x p b = passed

pub mild_resolved : (x : List ℕ) (p : ℕ) (b : Body) → Mild (resolved x p b)
unfolding resolved
mild_resolved x p b = mild_variable (index_of x b.scope) x p b

gentle_naming : (x : List ℕ) (p : ℕ) (u w : Option Wish) (b : Body) → Gentle (naming x p u w b)
gentle_naming x p u w b = gentle_unless (λ m. leafed m p u w b) (mild_resolved x p b) (λ m. gentle_leafed m p u w b)

pub late_opened : (p : ℕ) (o : Open) → LateChange (opened p o)
unfolding opened
late_opened p o = go (nat_lt (length o.places) o.limit)
  where
    go : (t : Bool) → LateChange {Z = Open} {X = Unit {0}} (cond t (changed tt (record { limit = o.limit; places = p ∷ o.places })) (unfit (fault.OverLimit p)))
    go true = alters
    go false = keeps refl

-- what is asked after a token depends on whether a ' sign is next

pub tell_at_end : {Z X : Type 0} {G : Shape} (w : Option Wish) (g : Option Wish → Cursor → steps.Outcome Z X) → ((v : Option Wish) → Tells soft looks_on G (g v)) → Tells soft looks_on G (λ c. g (at_end w c) c)
tell_at_end {Z} {X} {G} w g h = record { of = λ c. go c (at_end w c) refl (g (at_end w c) c) ((h (at_end w c)).of c) }
  where
    same : (c d : Cursor) → is_mark mark.Prime (head c) ≡ is_mark mark.Prime (head d) → at_end w d ≡ at_end w c
    same c d e = ap (λ b. cond b None w) (sym e)

    within : (n : ℕ) (c d : Cursor) → Alike n c d → Onward (after n c) (after n d) → at_end w d ≡ at_end w c
    within zero c d a e = same c d e.0
    within (suc n) c d a e = same c d (ap (is_mark mark.Prime) a.0)

    early : (n : ℕ) (c d : Cursor) (f : Fault) → ((1 ≤ n) ⊎ (may_be_put_off f ≡ true)) → Alike n c d → Ends f (after n c) (after n d) → at_end w d ≡ at_end w c
    early zero c d f r a e = ⊎_elim (λ z. absurd (omega (arith, z))) (λ s. same c d (e s).0) r
    early (suc n) c d f r a e = same c d (ap (is_mark mark.Prime) a.0)

    go : (c : Cursor) (v : Option Wish) → v ≡ at_end w c → (o : steps.Outcome Z X) → Told soft looks_on G (g v) c o → Told soft looks_on G (λ d. g (at_end w d) d) c o
    go c v i o (told_ok {x} {e} {z} t) = told_ok (record { count = t.count; begins = tt; left = t.left; shape = t.shape; again = λ d l n. ap (λ u. g u d) (within t.count c d l (subst (λ q. Onward q (after t.count d)) t.left n) ∙ sym i) ∙ t.again d l n })
    go c v i o (told_fail {f} {e} t) = told_fail (record { count = t.count; ready = t.ready; left = t.left; early = t.early; again = λ d l n. ap (λ u. g u d) (early t.count c d f t.ready l (subst (λ q. Ends f q (after t.count d)) t.left n) ∙ sym i) ∙ t.again d l n })

-- the end of an expression

abbrev pub Nothing : Shape
Nothing us = us ≡ []

done : (i : ℕ) (b : Body) (o : Open) → Tells soft looks_on Nothing (λ c. ok i c b o)
done i b o = tell_ok i (b, o) tt refl

tell_settle : (n : Node) (p : ℕ) (b : Body) (o : Open) → Tells soft looks_on Nothing (λ c. settle n p c b o)
tell_settle n p b o = tell_gentle (putting kind.Expression n p b) (gentle_putting kind.Expression n p b) (λ i b₁ c. ok i c b₁ o) (λ i b₁. done i b₁ o)

tell_name : (x : List ℕ) (p : ℕ) (u w : Option Wish) (b : Body) (o : Open) → Tells soft looks_on Nothing (λ c. named x p u w c b o)
tell_name x p u w b o = tell_gentle (naming x p u w b) (gentle_naming x p u w b) (λ i b₁ c. ok i c b₁ o) (λ i b₁. done i b₁ o)

tell_named : (x : List ℕ) (p : ℕ) (u w : Option Wish) (b : Body) (o : Open) → Tells soft looks_on Nothing (λ c. named x p u (at_end w c) c b o)
tell_named x p u w b o = tell_at_end w (λ v c. named x p u v c b o) (λ v. tell_name x p u v b o)

tell_leafed : (m : Meant) (p : ℕ) (u w : Option Wish) (b : Body) (o : Open) → Tells soft looks_on Nothing (λ c. alter (leafed m p u w b) c (λ i b₁. ok i c b₁ o))
tell_leafed m p u w b o = tell_gentle (leafed m p u w b) (gentle_leafed m p u w b) (λ i b₁ c. ok i c b₁ o) (λ i b₁. done i b₁ o)

tell_constant : (k : Constant) (p : ℕ) (u w : Option Wish) (b : Body) (o : Open) → Tells soft looks_on Nothing (λ c. constant k p u (at_end w c) c b o)
tell_constant k p u w b o = tell_at_end w (λ v c. constant k p u v c b o) (λ v. tell_leafed (meant_constant k) p u v b o)

-- readers of expressions

abbrev pub Parts : Primaries → Type 0
Parts f = (u w : Option Wish) (b : Body) (o : Open) → Tells starts looks_on Part (λ c. f u w c b o)

abbrev pub Wholes : (Option Wish → Cursor → Body → Open → Outcome ℕ) → Type 0
Wholes f = (w : Option Wish) (b : Body) (o : Open) → Tells starts looks_on Exp (λ c. f w c b o)

full_part : Full Part
full_part = (full_name.0, p_name full_name.1)

pub full_exp : Full Exp
full_exp = (full_part.0 ++ [], e_part full_part.1 no_more)

tell_turned : (f : Primaries) → Parts f → (t : Turn) (p : ℕ) (w : Option Wish) (b : Body) (o : Open) → Tells free looks_on Part (λ c. turned f t p w c b o)
tell_turned f h t p w b o =
    tell_alter (counted p b) (gentle_late (gentle_counted p b)) (λ _ b₁ c. then (f (Some (wish 2 p)) w c b₁ o) (λ i c₂ b₂ o₂. settle (node.Turned t i) p c₂ b₂ o₂)) (λ _ b₁.
    tell_map ends (tell_then (λ i z c₂. settle (node.Turned t i) p c₂ z.0 z.1) tt tt (h (Some (wish 2 p)) w b₁ o) ([], refl) (λ i z. tell_settle (node.Turned t i) p z.0 z.1)))

pub tell_closing : {Y : Type 0} {k : Kind} {a : Ahead} {H : Shape} (o : Open) (m : Mark) → Full H → (g : ℕ → Open → Cursor → Outcome Y) → ((p : ℕ) (o : Open) → Tells k a H (g p o)) → Tells starts a (Then (One (Is m)) H) (λ c. closing (closed o) m c (λ p c₁ o₁. g p o₁ c₁))
unfolding closed
tell_closing {Y} {k} {a} {H} o m full g h = go o.places
  where
    go : (ps : List ℕ) → Tells starts a (Then (One (Is m)) H) (λ c. closing (latest ps o.limit) m c (λ p c₁ o₁. g p o₁ c₁))
    go [] = tell_refused (full_then (full_mark m) full)
    go (p ∷ ps) = tell_take m full (λ _ c₁. g p (record { limit = o.limit; places = ps }) c₁) (λ _. h p (record { limit = o.limit; places = ps }))

tell_combined : (n : Node) (u w : Option Wish) (b : Body) (o : Open) → Tells starts looks_on (One (Is mark.CloseBracket)) (λ c. combined n u w c b o)
tell_combined n u w b o =
    tell_map ends (tell_closing o mark.CloseBracket ([], refl) (λ p o₁ c₁. alter (putting kind.Expression n p b) c₁ (λ i b₁. check (asked u (arity_in i b₁)) c₁ (λ _. check (asked (at_end w c₁) (arity_in i b₁)) c₁ (λ _. ok i c₁ b₁ o₁)))) (λ p o₁.
    tell_gentle (putting kind.Expression n p b) (gentle_putting kind.Expression n p b) (λ i b₁ c₁. check (asked u (arity_in i b₁)) c₁ (λ _. check (asked (at_end w c₁) (arity_in i b₁)) c₁ (λ _. ok i c₁ b₁ o₁))) (λ i b₁.
    tell_mild (asked u (arity_in i b₁)) (mild_asked u (arity_in i b₁)) (λ _ c₁. check (asked (at_end w c₁) (arity_in i b₁)) c₁ (λ _. ok i c₁ b₁ o₁)) (λ _.
    tell_at_end w (λ v c₁. check (asked v (arity_in i b₁)) c₁ (λ _. ok i c₁ b₁ o₁)) (λ v.
    tell_mild (asked v (arity_in i b₁)) (mild_asked v (arity_in i b₁)) (λ _ c₁. ok i c₁ b₁ o₁) (λ _. done i b₁ o₁))))))

abbrev pub Bracketed : Shape
Bracketed = Then Exp (Then (One IsOperator) (Then Exp (One (Is mark.CloseBracket))))

full_operator : Full (One IsOperator)
unfolding operator_of
full_operator = full_one (at (sign (signs.Operator operator.Union)) 0) (operator.Union, refl)

full_right : Full (Then Exp (One (Is mark.CloseBracket)))
full_right = full_then full_exp (full_mark mark.CloseBracket)

tell_bracketed : (f : Option Wish → Cursor → Body → Open → Outcome ℕ) → Wholes f → (p : ℕ) (u w : Option Wish) (b : Body) (o : Open) → Tells free looks_on Bracketed (λ c. bracketed f p u w c b o)
tell_bracketed f h p u w b o =
    tell_alter (opened p o) (late_opened p o) (λ _ o₁ c.
    then (f None c b o₁) (λ x c₂ b₂ o₂.
    taking (operator_of (head c₂)) c₂ (λ s c₃.
    alter (counted (place_of (head c₂)) b₂) c₃ (λ _ b₃.
    then (f None c₃ b₃ o₂) (λ y c₄ b₄ o₄.
    combined (node.Combined s x y) u w c₄ b₄ o₄))))) (λ _ o₁.
    tell_then (λ x z c₂.
    taking (operator_of (head c₂)) c₂ (λ s c₃.
    alter (counted (place_of (head c₂)) z.0) c₃ (λ _ b₃.
    then (f None c₃ b₃ z.1) (λ y c₄ b₄ o₄.
    combined (node.Combined s x y) u w c₄ b₄ o₄)))) tt tt (h None b o₁) (full_then full_operator full_right) (λ x z.
    tell_taking operator_of full_operator full_right (λ s i c₃.
    alter (counted (place_of i) z.0) c₃ (λ _ b₃.
    then (f None c₃ b₃ z.1) (λ y c₄ b₄ o₄.
    combined (node.Combined s x y) u w c₄ b₄ o₄))) (λ s i.
    tell_alter (counted (place_of i) z.0) (gentle_late (gentle_counted (place_of i) z.0)) (λ _ b₃ c₃.
    then (f None c₃ b₃ z.1) (λ y c₄ b₄ o₄.
    combined (node.Combined s x y) u w c₄ b₄ o₄)) (λ _ b₃.
    tell_then (λ y v c₄. combined (node.Combined s x y) u w c₄ v.0 v.1) tt tt (h None b₃ z.1) (full_mark mark.CloseBracket) (λ y v.
    tell_combined (node.Combined s x y) u w v.0 v.1)))))

-- ' signs

primed_once : ℕ → Option Wish → ℕ → Body → Open → Item → Cursor → Outcome ℕ
primed_once p w i b o t c = check (asked (at_end w c) (arity_in i b)) c (λ _. alter (counted (place_of t) b) c (λ _ b₁. settle (node.Next i) p c b₁ o))

told_prime : (p : ℕ) (w : Option Wish) (i : ℕ) (b : Body) (o : Open) (c : Cursor) → is_mark mark.Prime (head c) ≡ true → Told starts looks_on (One (Is mark.Prime)) (λ c. prime p w i c b o) c (prime p w i c b o)
unfolding primed_once
told_prime p w i b o c e =
    told_map ends (told_next (primed_once p w i b o) c e ((
    tell_at_end w (λ v c₁. check (asked v (arity_in i b)) c₁ (λ _. alter (counted (place_of (head c)) b) c₁ (λ _ b₁. settle (node.Next i) p c₁ b₁ o))) (λ v.
    tell_mild (asked v (arity_in i b)) (mild_asked v (arity_in i b)) (λ _ c₁. alter (counted (place_of (head c)) b) c₁ (λ _ b₁. settle (node.Next i) p c₁ b₁ o)) (λ _.
    tell_gentle (counted (place_of (head c)) b) (gentle_counted (place_of (head c)) b) (λ _ b₁ c₁. settle (node.Next i) p c₁ b₁ o) (λ _ b₁. tell_settle (node.Next i) p b₁ o)))).of (step c)))

pub tell_primes : (n p : ℕ) (w : Option Wish) (i : ℕ) (b : Body) (o : Open) → Tells soft looks_on (Many (One (Is mark.Prime))) (λ c. primes n p w i c b o)
unfolding primes
tell_primes zero p w i b o = tell_ok i (b, o) tt no_more
tell_primes (suc n) p w i b o =
    tell_where i (b, o) no_more (is_mark mark.Prime) (λ c. then (prime p w i c b o) (λ j c₁ b₁ o₁. primes n p w j c₁ b₁ o₁)) (λ c d e. e.0)
    (λ c e. told_map many_more (told_then (λ j z c₁. primes n p w j c₁ z.0 z.1) tt tt c (told_prime p w i b o c e) full_many (λ j z. tell_primes n p w j z.0 z.1)))

whole : (us : List Item) → Then Part (Many (One (Is mark.Prime))) us → Exp us
whole us h = rw h.is (e_part h.one h.two)

pub tell_primed : (f : Primaries) → Parts f → Wholes (primed f)
tell_primed f h w b o =
    tell_map whole (tell_by place_of (λ p c. then (f None w c b o) (λ i c₁ b₁ o₁. primes most_parts p w i c₁ b₁ o₁)) (λ p.
    tell_then (λ i z c₁. primes most_parts p w i c₁ z.0 z.1) tt tt (h None w b o) full_many (λ i z. tell_primes most_parts p w i z.0 z.1)))

-- P, by what it begins with

-- a token with which an expression begins as a name is a name
named_at : (i : Item) (x : List ℕ) → head_of i ≡ Some (h_name x) → IsName i
unfolding head_of
named_at (at (name s) p) x e = (_, refl)
named_at (at (word (words.Constant k)) p) x e = absurd cc
named_at (at (word words.Atoms) p) x e = absurd cc
named_at (at (word words.Rel) p) x e = absurd cc
named_at (at (word words.Var) p) x e = absurd cc
named_at (at (word words.Horizon) p) x e = absurd cc
named_at (at (word words.Formula) p) x e = absurd cc
named_at (at (word (words.Prefix q)) p) x e = absurd cc
named_at (at (word (words.Infix q)) p) x e = absurd cc
named_at (at (word words.All) p) x e = absurd cc
named_at (at (word words.Some) p) x e = absurd cc
named_at (at (word words.No) p) x e = absurd cc
named_at (at (word words.In) p) x e = absurd cc
named_at (at (number s) p) x e = absurd cc
named_at (at (sign s) p) x e = absurd (no_name s x e)
  where
    no_name : (s : Sign) (x : List ℕ) → head_of_sign s ≡ Some (h_name x) → ⊥
    no_name signs.Semicolon x e = absurd cc
    no_name signs.Colon x e = absurd cc
    no_name signs.OpenBrace x e = absurd cc
    no_name signs.CloseBrace x e = absurd cc
    no_name signs.OpenParen x e = absurd cc
    no_name signs.CloseParen x e = absurd cc
    no_name signs.OpenBracket x e = absurd cc
    no_name signs.CloseBracket x e = absurd cc
    no_name signs.Bar x e = absurd cc
    no_name signs.Equal x e = absurd cc
    no_name signs.Prime x e = absurd cc
    no_name (signs.Turn t) x e = absurd cc
    no_name (signs.Operator q) x e = absurd cc
named_at (at end p) x e = absurd cc
named_at (flaw f) x e = absurd cc

part_of : (us : List Item) → Then (One IsName) Nothing us → Part us
part_of us h = p_name (ends us h)

constant_of : (us : List Item) → Then (One IsConstant) Nothing us → Part us
constant_of us h = p_constant (ends us h)

turned_part : (us : List Item) → Then (One IsTurn) Part us → Part us
turned_part us h = rw (h.is, h.one.is) (p_turned h.one.item h.one.holds h.two)

bracketed_part : (us : List Item) → Then (One OpensBracket) Bracketed us → Part us
bracketed_part us h =
    let a = h.two in
    let b = a.two in
    let d = b.two in
    rw (h.is, h.one.is, a.is, b.is, b.one.is, d.is, d.two.is) (p_bracketed h.one.item b.one.item d.two.item h.one.holds a.one b.one.holds d.one d.two.holds)

begins_with : Primaries → Option Head → Option Wish → Option Wish → Body → Open → Item → Cursor → Outcome ℕ
begins_with f None u w b o i c = fail (refusal i) c
begins_with f (Some (h_name x)) u w b o i c = named x (place_of i) u (at_end w c) c b o
begins_with f (Some (h_constant k)) u w b o i c = constant k (place_of i) u (at_end w c) c b o
begins_with f (Some (h_turn t)) u w b o i c = turned f t (place_of i) w c b o
begins_with f (Some h_open) u w b o i c = bracketed (primed f) (place_of i) u w c b o

same_beginning : (f : Primaries) (h : Option Head) (u w : Option Wish) (b : Body) (o : Open) (c : Cursor) → beginning f h u w c b o ≡ begins_with f h u w b o (head c) (step c)
unfolding begins_with
same_beginning f None u w b o c = refl
same_beginning f (Some (h_name x)) u w b o c = refl
same_beginning f (Some (h_constant k)) u w b o c = refl
same_beginning f (Some (h_turn t)) u w b o c = refl
same_beginning f (Some h_open) u w b o c = refl

module _ (f : Primaries) (F : Parts f) (u w : Option Wish) (b : Body) (o : Open) where
  reads : Item → Cursor → Outcome ℕ
  reads i c = begins_with f (head_of i) u w b o i c

  told_beginning : (c : Cursor) (h : Option Head) → head_of (head c) ≡ h → Told starts looks_on Part (λ d. reads (head d) (step d)) c (begins_with f h u w b o (head c) (step c))
  unfolding begins_with reads
  told_beginning c None e = told_refused reads c (λ v. ap (λ h. begins_with f h u w b o (head c) v) e) full_part
  told_beginning c (Some (h_name x)) e = told_map part_of (told_next reads c (named_at (head c) x e) (told_like (λ v. ap (λ h. begins_with f h u w b o (head c) v) e) ((tell_named x (place_of (head c)) u w b o).of (step c))))
  told_beginning c (Some (h_constant k)) e = told_map constant_of (told_next reads c (k, e) (told_like (λ v. ap (λ h. begins_with f h u w b o (head c) v) e) ((tell_constant k (place_of (head c)) u w b o).of (step c))))
  told_beginning c (Some (h_turn r)) e = told_map turned_part (told_next reads c (r, e) (told_like (λ v. ap (λ h. begins_with f h u w b o (head c) v) e) ((tell_turned f F r (place_of (head c)) w b o).of (step c))))
  told_beginning c (Some h_open) e = told_map bracketed_part (told_next reads c e (told_like (λ v. ap (λ h. begins_with f h u w b o (head c) v) e) ((tell_bracketed (primed f) (tell_primed f F) (place_of (head c)) u w b o).of (step c))))

  tell_begun : Tells starts looks_on Part (λ c. begun f u w c b o)
  unfolding reads
  tell_begun = tell_like (λ c. same_beginning f (head_of (head c)) u w b o c) (record { of = λ c. told_beginning c (head_of (head c)) refl })

pub tell_primary : (n : ℕ) → Parts (primary n)
unfolding primary
tell_primary zero u w b o = tell_refused full_part
tell_primary (suc n) u w b o = tell_begun (primary n) (tell_primary n) u w b o

pub tell_expression : (n : ℕ) → Wholes (expression n)
tell_expression n = tell_primed (primary n) (tell_primary n)

-- E that begins with a name, after it: ' signs
pub tell_after_name : (x : List ℕ) (p : ℕ) (b : Body) (o : Open) → Tells soft looks_on (Many (One (Is mark.Prime))) (λ c. after_name x p c b o)
tell_after_name x p b o =
    tell_map (λ us h. rw (h.is, h.one) h.two) (tell_then (λ i z c₁. primes most_parts p None i c₁ z.0 z.1) tt tt (tell_name x p None None b o) full_many (λ i z. tell_primes most_parts p None i z.0 z.1))
