-- Each production of an expression passes what is of its shape, while parts and brackets are within their limits.
use Rattle.std.specs.Prelude.{nat_lt, length}
use Rattle.std.proofs.Common.{◌≡◌, ℕ, zero, suc, ◌≤◌, Bool, true, false, cond, List, [], ◌∷◌, ◌++◌, Some, None, Ok, Err, Option, Result, refl, sym, ap, subst, ◌∙◌, arith}
use Rattle.faults.specs.declared.Fault.{Fault}
use Rattle.faults.specs.declared.Fault.TheVariants as fault
use Rattle.problem.specs.declared.node.Node.{Node}
use Rattle.problem.specs.declared.node.Node.TheVariants as node
use Rattle.problem.specs.declared.node.Turn.{Turn}
use Rattle.problem.specs.declared.sort.Sort.{Sort}
use Rattle.problem.specs.declared.sort.Kind.{Kind as NodeKind}
use Rattle.problem.specs.declared.sort.Kind.TheVariants as kind
use Rattle.problem.specs.declared.sort.Misfit.{Misfit}
use Rattle.problem.specs.declared.sort.Misfit.TheVariants as misfit
use Rattle.problem.specs.Sorts.{placed, most_parts}
use Rattle.tokens.specs.declared.mark.Mark.{Mark}
use Rattle.tokens.specs.declared.mark.Mark.TheVariants as mark
use Rattle.tokens.specs.Items.{Item, place_of, is_mark}
use Rattle.tokens.specs.Cursors.{Cursor, head, step}
use Rattle.tokens.specs.Outcomes.{taking, check, Change, changed, unfit, alter}
use Rattle.formulas.specs.declared.wish.Wish.{Wish}
use Rattle.formulas.specs.declared.sketch.calls.Meant.{Meant}
use Rattle.formulas.specs.Bodies.{Body, Open}
use Rattle.formulas.specs.Starts.{Head, h_name, h_constant, h_turn, h_open, head_of, operator_of}
use Rattle.formulas.specs.Outcomes.{Outcome, ok, then, asked, unless, next, counted, arities_of, placing, putting, leafed, naming, meant_constant, arity_in, opened, closed, closing}
use Rattle.formulas.specs.Expressions.{Primaries, wish, at_end, settle, turned, combined, bracketed, prime, primes, primed, beginning, begun, primary, expression, after_name}
use Rattle.reader.specs.Grammar.{Is, IsTurn, OpensBracket, One, Then, Many, no_more, Part, p_name, p_constant, p_turned, p_bracketed, Exp, e_part}
use Rattle.std.proofs.Common.{◌+◌, ◌<◌, ltb-true}
use Rattle.reader.proofs.Telling.{Late, passes, refuses, mild_late}
use Rattle.reader.proofs.Items.{other_mark, name_head, operator_no_mark}
use Rattle.reader.proofs.Expressions.{Nothing, Bracketed, mild_asked, mild_resolved}
use Rattle.reader.proofs.Telling.{Shape}
use Rattle.declaring.specs.Sets.{most_text}
use Rattle.reader.specs.Grammar.{one_more}
use Rattle.reader.proofs.Passing.{Stands, past, Passed, passed_ok, pass_weaken, Sized, sized_ok, sized_late, pass_cond, pass_then, passed_at, length_both, Passes, Always, and_nothing, pass_map, pass_ok, passes_check, passes_alter, passed_next, head_is, passes_take, passes_taking, passed_then, passes_then, stands_front, stands_back, past_both}

-- parts and brackets are within their limits
pub record Held (b : Body) (o : Open) : Type 0 where
  pub few : b.parts ≤ 256
  pub limit : o.limit ≡ 32
  pub room : length o.places ≤ 32

-- after an expression or a formula: some parts more, and the same brackets
pub record Grown (b : Body) (o : Open) (z : Body × Open) : Type 0 where
  pub more : b.parts ≤ z.0.parts
  pub some : 1 ≤ z.0.parts
  pub few : z.0.parts ≤ 256
  pub same : z.1 ≡ o

-- one part more, within the limit
abbrev pub OneMore : {X : Type 0} → Body → X → Body → Type 0
OneMore b x b₁ = (b₁.parts ≡ suc b.parts) × (b₁.parts ≤ 256)

abbrev pub SameParts : {X : Type 0} → Body → X → Body → Type 0
SameParts b x b₁ = b₁.parts ≡ b.parts

pub sized_counted : (p : ℕ) (b : Body) → Sized (OneMore b) (counted p b)
unfolding counted
sized_counted p b = go (nat_lt b.parts most_parts) refl
  where
    go : (t : Bool) → nat_lt b.parts most_parts ≡ t → Sized {Z = Body} {X = Unit {0}} (OneMore b) (cond t (changed tt (record { atoms = b.atoms; relations = b.relations; horizon = b.horizon; nodes = b.nodes; sorts = b.sorts; scope = b.scope; parts = suc b.parts })) (unfit (fault.OverLimit p)))
    go true e = sized_ok (refl, omega (arith, ltb-true _ _ e))
    go false e = sized_late refl

pub sized_putting : (k : NodeKind) (n : Node) (p : ℕ) (b : Body) → Sized (SameParts b) (putting k n p b)
unfolding putting
sized_putting k n p b = go (placed (arities_of b) b.sorts k (length b.scope) n)
  where
    go : (r : Result Sort Misfit) → Sized (SameParts b) (placing r n p b)
    go (Ok s) = sized_ok refl
    go (Err misfit.Arity) = sized_late refl
    go (Err misfit.Past) = sized_late refl
    go (Err misfit.Room) = sized_late refl

sized_unless : {Z X Y : Type 0} {Q : Y → Z → Type 0} {r : Result X Fault} (k : X → Change Z Y) → Late r → ((x : X) → Sized Q (k x)) → Sized Q (unless r k)
sized_unless k (passes {x}) h = h x
sized_unless k (refuses e) h = sized_late e

sized_next : {Z X Y : Type 0} {P : X → Z → Type 0} {Q : Y → Z → Type 0} {c : Change Z X} (k : X → Z → Change Z Y) → Sized P c → ((x : X) (z : Z) → P x z → Sized Q (k x z)) → Sized Q (next c k)
sized_next k (sized_ok {x} {z} p) h = h x z p
sized_next k (sized_late e) h = sized_late e

sized_more : {Z X : Type 0} {P Q : X → Z → Type 0} {c : Change Z X} → ((x : X) (z : Z) → P x z → Q x z) → Sized P c → Sized Q c
sized_more m (sized_ok {x} {z} p) = sized_ok (m x z p)
sized_more m (sized_late e) = sized_late e

sized_leafed : (m : Meant) (p : ℕ) (u w : Option Wish) (b : Body) → Sized (OneMore b) (leafed m p u w b)
sized_leafed m p u w b =
    sized_unless (λ _. unless (asked w m.arity) (λ _. next (counted p b) (λ _ b₁. putting kind.Expression m.node p b₁))) (mild_late (mild_asked u m.arity)) (λ _.
    sized_unless (λ _. next (counted p b) (λ _ b₁. putting kind.Expression m.node p b₁)) (mild_late (mild_asked w m.arity)) (λ _.
    sized_next (λ _ b₁. putting kind.Expression m.node p b₁) (sized_counted p b) (λ _ b₁ q. sized_more (λ _ b₂ e. (e ∙ q.0, omega (arith, q.1, e))) (sized_putting kind.Expression m.node p b₁))))

sized_naming : (x : List ℕ) (p : ℕ) (u w : Option Wish) (b : Body) → Sized (OneMore b) (naming x p u w b)
sized_naming x p u w b = sized_unless (λ m. leafed m p u w b) (mild_late (mild_resolved x p b)) (λ m. sized_leafed m p u w b)

-- one bracket more
abbrev pub with_bracket : ℕ → Open → Open
with_bracket p o = record { limit = o.limit; places = p ∷ o.places }

abbrev pub OneOpen : ℕ → Open → Unit {0} → Open → Type 0
OneOpen p o x o₁ = (o₁ ≡ with_bracket p o) × (length o.places < o.limit)

pub sized_opened : (p : ℕ) (o : Open) → Sized (OneOpen p o) (opened p o)
unfolding opened
sized_opened p o = go (nat_lt (length o.places) o.limit) refl
  where
    go : (t : Bool) → nat_lt (length o.places) o.limit ≡ t → Sized {Z = Open} {X = Unit {0}} (OneOpen p o) (cond t (changed tt (record { limit = o.limit; places = p ∷ o.places })) (unfit (fault.OverLimit p)))
    go true e = sized_ok (refl, ltb-true _ _ e)
    go false e = sized_late refl

pub held_more : (b b₁ : Body) (o : Open) → Held b o → b₁.parts ≤ 256 → Held b₁ o
held_more b b₁ o h e = record { few = e; limit = h.limit; room = h.room }

pub held_open : (p : ℕ) (b : Body) (o : Open) → Held b o → length o.places < o.limit → Held b (with_bracket p o)
held_open p b o h e = record { few = h.few; limit = h.limit; room = omega (arith, e, h.limit) }

-- the end of an expression

module _ {R : Cursor → Type 0} {Q : ℕ → Body × Open → Type 0} where
  pass_settle : (n : Node) (p : ℕ) (b : Body) (o : Open) → ((i : ℕ) (b₁ : Body) → b₁.parts ≡ b.parts → Q i (b₁, o)) → Passes Nothing R Q (λ c. settle n p c b o)
  pass_settle n p b o h = passes_alter (putting kind.Expression n p b) (sized_putting kind.Expression n p b) (λ i b₁ c. ok i c b₁ o) (λ i b₁ e. pass_ok i (b₁, o) (h i b₁ e))

  pass_leaf : (w : Cursor → Change Body ℕ) (b : Body) (o : Open) → ((c : Cursor) → Sized (OneMore b) (w c)) → ((i : ℕ) (b₁ : Body) → OneMore b i b₁ → Q i (b₁, o)) → Passes Nothing R Q (λ c. alter (w c) c (λ i b₁. ok i c b₁ o))
  pass_leaf w b o s h = record { of = λ us c g l t n. (passes_alter {R = R} (w c) (s c) (λ i b₁ c. ok i c b₁ o) (λ i b₁ e. pass_ok i (b₁, o) (h i b₁ e))).of us c g l t n }

  pub passes_closing : {H : Shape} (p : ℕ) (o q : Open) (m : Mark) (g : ℕ → Open → Cursor → Outcome ℕ) → q ≡ with_bracket p o → Passes H R Q (g p o) → Passes (Then (One (Is m)) H) R Q (λ c. closing (closed q) m c (λ p c₁ o₁. g p o₁ c₁))
  unfolding closed
  passes_closing {H} p o q m g e h = subst (λ q. Passes (Then (One (Is m)) H) R Q (λ c. closing (closed q) m c (λ p c₁ o₁. g p o₁ c₁))) (sym e) (passes_take m (λ _ c₁. g p o c₁) (λ _. h))

-- a ' sign does not come next
abbrev pub NotPrime : Cursor → Type 0
NotPrime u = is_mark mark.Prime (head u) ≡ false

-- readers of expressions, so many levels deep

abbrev pub PassParts : ℕ → Primaries → Type 0
PassParts n f = (u w : Option Wish) (b : Body) (o : Open) → Held b o → 289 ≤ n + b.parts + length o.places → Passes Part Always (λ (i : ℕ) z. Grown b o z) (λ c. f u w c b o)

abbrev pub PassWholes : ℕ → (Option Wish → Cursor → Body → Open → Outcome ℕ) → Type 0
PassWholes n f = (w : Option Wish) (b : Body) (o : Open) → Held b o → 289 ≤ n + b.parts + length o.places → Passes Exp NotPrime (λ (i : ℕ) z. Grown b o z) (λ c. f w c b o)

grown_one : (b b₁ : Body) (o : Open) (i : ℕ) → OneMore b i b₁ → Grown b o (b₁, o)
grown_one b b₁ o i e = record { more = omega (arith, e.0); some = omega (arith, e.0); few = e.1; same = refl }

pass_turned : (n : ℕ) (f : Primaries) → PassParts n f → (t : Turn) (p : ℕ) (w : Option Wish) (b : Body) (o : Open) → Held b o → 289 ≤ suc n + b.parts + length o.places → Passes Part Always (λ (i : ℕ) z. Grown b o z) (λ c. turned f t p w c b o)
pass_turned n f F t p w b o h l =
    passes_alter (counted p b) (sized_counted p b) (λ _ b₁ c. then (f (Some (wish 2 p)) w c b₁ o) (λ i c₂ b₂ o₂. settle (node.Turned t i) p c₂ b₂ o₂)) (λ _ b₁ e.
    pass_map and_nothing (passes_then (λ i z c₂. settle (node.Turned t i) p c₂ z.0 z.1) (λ _ _ _ _ _. tt) (F (Some (wish 2 p)) w b₁ o (held_more b b₁ o h e.1) (omega (arith, l, e.0))) (λ i z g.
    pass_settle (node.Turned t i) p z.0 z.1 (λ j b₂ q. record { more = omega (arith, e.0, g.more, q); some = omega (arith, g.some, q); few = omega (arith, g.few, q); same = g.same }))))

pass_combined : (n : Node) (p : ℕ) (u w : Option Wish) (b₀ b : Body) (o q : Open) → q ≡ with_bracket p o → b₀.parts ≤ b.parts → 1 ≤ b.parts → b.parts ≤ 256 → Passes (One (Is mark.CloseBracket)) Always (λ (i : ℕ) z. Grown b₀ o z) (λ c. combined n u w c b q)
pass_combined n p u w b₀ b o q e more some few =
    pass_map and_nothing (passes_closing p o q mark.CloseBracket (λ p o₁ c₁. alter (putting kind.Expression n p b) c₁ (λ i b₁. check (asked u (arity_in i b₁)) c₁ (λ _. check (asked (at_end w c₁) (arity_in i b₁)) c₁ (λ _. ok i c₁ b₁ o₁)))) e (
    passes_alter (putting kind.Expression n p b) (sized_putting kind.Expression n p b) (λ i b₁ c₁. check (asked u (arity_in i b₁)) c₁ (λ _. check (asked (at_end w c₁) (arity_in i b₁)) c₁ (λ _. ok i c₁ b₁ o))) (λ i b₁ s.
    passes_check (asked u (arity_in i b₁)) (mild_late (mild_asked u (arity_in i b₁))) (λ _ c₁. check (asked (at_end w c₁) (arity_in i b₁)) c₁ (λ _. ok i c₁ b₁ o)) (λ _.
    record { of = λ us c₁ g l t n. (passes_check {R = Always} (asked (at_end w c₁) (arity_in i b₁)) (mild_late (mild_asked (at_end w c₁) (arity_in i b₁))) (λ _ c₁. ok i c₁ b₁ o) (λ _. pass_ok i (b₁, o) (record { more = omega (arith, more, s); some = omega (arith, some, s); few = omega (arith, few, s); same = refl }))).of us c₁ g l t n }))))

pass_bracketed : (n : ℕ) (f : Option Wish → Cursor → Body → Open → Outcome ℕ) → PassWholes n f → (p : ℕ) (u w : Option Wish) (b : Body) (o : Open) → Held b o → 289 ≤ suc n + b.parts + length o.places → Passes Bracketed Always (λ (i : ℕ) z. Grown b o z) (λ c. bracketed f p u w c b o)
pass_bracketed n f F p u w b o h l =
    passes_alter (opened p o) (sized_opened p o) (λ _ o₁ c.
    then (f None c b o₁) (λ x c₂ b₂ o₂.
    taking (operator_of (head c₂)) c₂ (λ s c₃.
    alter (counted (place_of (head c₂)) b₂) c₃ (λ _ b₃.
    then (f None c₃ b₃ o₂) (λ y c₄ b₄ o₄.
    combined (node.Combined s x y) u w c₄ b₄ o₄))))) (λ _ o₁ e.
    let held : Held b o₁ = subst (λ q. Held b q) (sym e.0) (held_open p b o h e.1) in
    let deep : length o₁.places ≡ suc (length o.places) = ap (λ (q : Open). length q.places) e.0 in
    passes_then (λ x z c₂.
    taking (operator_of (head c₂)) c₂ (λ s c₃.
    alter (counted (place_of (head c₂)) z.0) c₃ (λ _ b₃.
    then (f None c₃ b₃ z.1) (λ y c₄ b₄ o₄.
    combined (node.Combined s x y) u w c₄ b₄ o₄)))) (λ vs v k t _. operator_no_mark (head v) mark.Prime (head_is vs v k t)) (F None b o₁ held (omega (arith, l, deep))) (λ x z g.
    passes_taking operator_of (λ s i c₃.
    alter (counted (place_of i) z.0) c₃ (λ _ b₃.
    then (f None c₃ b₃ z.1) (λ y c₄ b₄ o₄.
    combined (node.Combined s x y) u w c₄ b₄ o₄))) (λ s i.
    passes_alter (counted (place_of i) z.0) (sized_counted (place_of i) z.0) (λ _ b₃ c₃.
    then (f None c₃ b₃ z.1) (λ y c₄ b₄ o₄.
    combined (node.Combined s x y) u w c₄ b₄ o₄)) (λ _ b₃ e₃.
    let again : Held b₃ z.1 = subst (λ q. Held b₃ q) (sym g.same) (held_more b b₃ o₁ held e₃.1) in
    passes_then (λ y v c₄. combined (node.Combined s x y) u w c₄ v.0 v.1) (λ vs v k t _. other_mark mark.CloseBracket mark.Prime (head v) (head_is vs v (and_nothing vs k) t) refl) (F None b₃ z.1 again (omega (arith, l, deep, g.more, e₃.0, ap (λ (q : Open). length q.places) g.same))) (λ y v g₂.
    pass_combined (node.Combined s x y) p u w b v.0 o v.1 (g₂.same ∙ g.same ∙ e.0) (omega (arith, g.more, e₃.0, g₂.more)) g₂.some g₂.few)))))

-- ' signs

passed_prime : (p : ℕ) (w : Option Wish) (i : ℕ) (b : Body) (o : Open) (us : List Item) (c : Cursor) → One (Is mark.Prime) us → length us ≤ most_text → Stands us c → Passed (λ (j : ℕ) z. (z.0.parts ≡ suc b.parts) × (z.0.parts ≤ 256) × (z.1 ≡ o)) (past us c) (prime p w i c b o)
passed_prime p w i b o us c h l s =
    passed_next us c (and_nothing us h) l s tt
    (passes_check (asked (at_end w (step c)) (arity_in i b)) (mild_late (mild_asked (at_end w (step c)) (arity_in i b))) (λ _ c₁. alter (counted (place_of (head c)) b) c₁ (λ _ b₁. settle (node.Next i) p c₁ b₁ o)) (λ _.
    passes_alter (counted (place_of (head c)) b) (sized_counted (place_of (head c)) b) (λ _ b₁ c₁. settle (node.Next i) p c₁ b₁ o) (λ _ b₁ e. pass_settle {R = Always} (node.Next i) p b₁ o (λ j b₂ q. (q ∙ e.0, omega (arith, e.1, q), refl)))))

passed_primes : (n p : ℕ) (w : Option Wish) (i : ℕ) (b : Body) (o : Open) (us : List Item) (c : Cursor) → Many (One (Is mark.Prime)) us → length us ≤ most_text → Stands us c → NotPrime (past us c) → b.parts ≤ 256 → 257 ≤ n + b.parts → Passed (λ (j : ℕ) z. (b.parts ≤ z.0.parts) × (z.0.parts ≤ 256) × (z.1 ≡ o)) (past us c) (primes n p w i c b o)
unfolding primes
passed_primes zero p w i b o us c m l s e few fuel = absurd (omega (arith, few, fuel))
passed_primes (suc n) p w i b o us c no_more l s e few fuel = pass_cond (is_mark mark.Prime (head c)) false (then (prime p w i c b o) (λ j c₁ b₁ o₁. primes n p w j c₁ b₁ o₁)) (ok i c b o) e (passed_ok (omega arith, few, refl))
passed_primes (suc n) p w i b o us c (one_more {us = vs} {vs = ws} h m) l s e few fuel =
    let q = past_both vs ws c in
    let k = length_both vs ws in
    let s₁ = stands_front vs ws c s in
    pass_cond (is_mark mark.Prime (head c)) true (then (prime p w i c b o) (λ j c₁ b₁ o₁. primes n p w j c₁ b₁ o₁)) (ok i c b o) (head_is vs c (and_nothing vs h) s₁)
    (passed_at (sym q) (pass_then (λ j z c₁. primes n p w j c₁ z.0 z.1) (passed_prime p w i b o vs c h (omega (arith, l, k)) s₁) (λ j z g.
    pass_weaken (λ x v r. (omega (arith, g.0, r.0), r.1, r.2 ∙ g.2)) (passed_primes n p w j z.0 z.1 ws (past vs c) m (omega (arith, l, k)) (stands_back vs ws c s) (subst NotPrime q e) g.1 (omega (arith, fuel, g.0))))))

unwhole : (us : List Item) → Exp us → Then Part (Many (One (Is mark.Prime))) us
unwhole us (e_part {us = vs} {vs = ws} p m) = record { left = vs; right = ws; is = refl; one = p; two = m }

primes_quiet : (vs : List Item) (u : Cursor) → Many (One (Is mark.Prime)) vs → Stands vs u → NotPrime (past vs u) → Always u
primes_quiet vs u m s e = tt

pub pass_primed : (n : ℕ) (f : Primaries) → PassParts n f → PassWholes n (primed f)
pass_primed n f F w b o h l =
    record {
      of = λ us c x t s e. passed_then {R = NotPrime} (λ i z c₁. primes most_parts (place_of (head c)) w i c₁ z.0 z.1) us c (unwhole us x) t s e primes_quiet (F None w b o h l) (λ i z g.
          record { of = λ vs v m t₁ s₁ e₁. pass_weaken (λ j y r. record { more = omega (arith, g.more, r.0); some = omega (arith, g.some, r.0); few = r.1; same = r.2 ∙ g.same }) (passed_primes most_parts (place_of (head c)) w i z.0 z.1 vs v m t₁ s₁ e₁ g.few (omega (arith, g.some))) });
    }

-- P, by what it begins with

module _ (n : ℕ) (f : Primaries) (F : PassParts n f) (u w : Option Wish) (b : Body) (o : Open) (h : Held b o) (l : 289 ≤ suc n + b.parts + length o.places) where
  by_head : (us : List Item) (c : Cursor) (y : Head) → head_of (head c) ≡ Some y → Passed (λ (i : ℕ) z. Grown b o z) (past us c) (beginning f (Some y) u w c b o) → Passed (λ (i : ℕ) z. Grown b o z) (past us c) (begun f u w c b o)
  by_head us c y e p = subst (λ y. Passed (λ (i : ℕ) z. Grown b o z) (past us c) (beginning f y u w c b o)) (sym e) p

  passed_part : (us : List Item) (c : Cursor) → Part us → length us ≤ most_text → Stands us c → Passed (λ (i : ℕ) z. Grown b o z) (past us c) (begun f u w c b o)
  passed_part us c (p_name x) t s =
      let y = name_head (head c) (head_is us c (and_nothing us x) s) in
      by_head us c (h_name y.0) y.1 (passed_next us c (and_nothing us x) t s tt (pass_leaf {R = Always} (λ v. naming y.0 (place_of (head c)) u (at_end w v) b) b o (λ v. sized_naming y.0 (place_of (head c)) u (at_end w v) b) (λ i b₁ e. grown_one b b₁ o i e)))
  passed_part us c (p_constant x) t s =
      let y = head_is us c (and_nothing us x) s in
      by_head us c (h_constant y.0) y.1 (passed_next us c (and_nothing us x) t s tt (pass_leaf {R = Always} (λ v. leafed (meant_constant y.0) (place_of (head c)) u (at_end w v) b) b o (λ v. sized_leafed (meant_constant y.0) (place_of (head c)) u (at_end w v) b) (λ i b₁ e. grown_one b b₁ o i e)))
  passed_part us c (p_turned i {us = vs} x p) t s =
      let r : Then (One IsTurn) Part us = record { left = i ∷ []; right = vs; is = refl; one = record { item = i; is = refl; holds = x }; two = p } in
      let y = head_is us c r s in
      by_head us c (h_turn y.0) y.1 (passed_next us c r t s tt (pass_turned n f F y.0 (place_of (head c)) w b o h l))
  passed_part us c (p_bracketed i j k {us = vs} {vs = ws} x a y d z) t s =
      let r : Then (One OpensBracket) Bracketed us = record { left = i ∷ []; right = vs ++ (j ∷ (ws ++ (k ∷ []))); is = refl; one = record { item = i; is = refl; holds = x }; two = record { left = vs; right = j ∷ (ws ++ (k ∷ [])); is = refl; one = a; two = record { left = j ∷ []; right = ws ++ (k ∷ []); is = refl; one = record { item = j; is = refl; holds = y }; two = record { left = ws; right = k ∷ []; is = refl; one = d; two = record { item = k; is = refl; holds = z } } } } } in
      by_head us c h_open (head_is us c r s) (passed_next us c r t s tt (pass_bracketed n (primed f) (pass_primed n f F) (place_of (head c)) u w b o h l))

pub pass_primary : (n : ℕ) → PassParts n (primary n)
unfolding primary
pass_primary zero u w b o h l = absurd (omega (arith, l, h.few, h.room))
pass_primary (suc n) u w b o h l = record { of = λ us c g t s e. passed_part n (primary n) (pass_primary n) u w b o h l us c g t s }

pub pass_expression : (n : ℕ) → PassWholes n (expression n)
pass_expression n = pass_primed n (primary n) (pass_primary n)

-- E that begins with a name, after it: ' signs
pub pass_after_name : (x : List ℕ) (p : ℕ) (b : Body) (o : Open) → Held b o → Passes (Many (One (Is mark.Prime))) NotPrime (λ (i : ℕ) z. Grown b o z) (λ c. after_name x p c b o)
pass_after_name x p b o h =
    pass_map (λ us m. record { left = []; right = us; is = refl; one = refl; two = m }) (passes_then {G = Nothing} (λ i z c₁. primes most_parts p None i c₁ z.0 z.1) primes_quiet (pass_leaf {R = Always} {Q = λ (i : ℕ) z. Grown b o z} (λ v. naming x p None None b) b o (λ v. sized_naming x p None None b) (λ i b₁ e. grown_one b b₁ o i e)) (λ i z g.
    record { of = λ vs v m t₁ s₁ e₁. pass_weaken (λ j y r. record { more = omega (arith, g.more, r.0); some = omega (arith, g.some, r.0); few = r.1; same = r.2 ∙ g.same }) (passed_primes most_parts p None i z.0 z.1 vs v m t₁ s₁ e₁ g.few (omega (arith, g.some))) }))
