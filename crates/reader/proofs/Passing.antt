-- A reader passes what is of its shape: it accepts all of it, or refuses it for another reason than a token.
use Rattle.std.proofs.Common.{◌≡◌, ℕ, ◌+◌, ◌≤◌, Bool, false, cond, List, [], ◌∷◌, ◌++◌, length, Some, Ok, Err, Option, Result, refl, sym, ap, subst, ◌∙◌, append-nil, arith}
use Rattle.faults.specs.declared.Fault.{Fault}
use Rattle.tokens.specs.declared.mark.Mark.{Mark}
use Rattle.tokens.specs.Items.{Item, place_of, refusal}
use Rattle.tokens.specs.Cursors.{Cursor, head, step, expected}
use Rattle.tokens.specs.Outcomes.{Outcome, ok, fail, then, check, take, taking, perhaps, Change, changed, unfit, alter}
use Rattle.declaring.specs.Sets.{most_text}
use Rattle.reader.specs.Settled.{is_early}
use Rattle.reader.specs.Grammar.{Is, One, Then}
use Rattle.reader.proofs.Telling.{Late, refuses}

-- the next tokens are those, and what stands after them
abbrev pub Stands : List Item → Cursor → Type 0
Stands [] c = Unit {0}
Stands (i ∷ us) c = (head c ≡ i) × Stands us (step c)

abbrev pub past : List Item → Cursor → Cursor
past [] c = c
past (i ∷ us) c = past us (step c)

pub stands_front : (us vs : List Item) (c : Cursor) → Stands (us ++ vs) c → Stands us c
stands_front [] vs c s = tt
stands_front (i ∷ us) vs c s = (s.0, stands_front us vs (step c) s.1)

pub stands_back : (us vs : List Item) (c : Cursor) → Stands (us ++ vs) c → Stands vs (past us c)
stands_back [] vs c s = s
stands_back (i ∷ us) vs c s = stands_back us vs (step c) s.1

pub past_both : (us vs : List Item) (c : Cursor) → past (us ++ vs) c ≡ past vs (past us c)
past_both [] vs c = refl
past_both (i ∷ us) vs c = past_both us vs (step c)

-- accepted up to there, with what holds of it; or refused for another reason than a token
module _ {Z X : Type 0} where
  pub data Passed (Q : X → Z → Type 0) (e : Cursor) : Outcome Z X → Type 0 where
    passed_ok : {x : X} {z : Z} → Q x z → Passed Q e (ok x e z)
    passed_late : {f : Fault} {u : Cursor} → is_early f ≡ false → Passed Q e (fail f u)

pub pass_weaken : {Z X : Type 0} {Q P : X → Z → Type 0} {e : Cursor} {o : Outcome Z X} → ((x : X) (z : Z) → Q x z → P x z) → Passed Q e o → Passed P e o
pass_weaken m (passed_ok {x} {z} q) = passed_ok (m x z q)
pass_weaken m (passed_late l) = passed_late l

abbrev pub Any : {Z X : Type 0} → X → Z → Type 0
Any x z = Unit {0}

module _ {Z Y X W : Type 0} {Q : X → Z → Type 0} {P : W → Y → Type 0} {d e : Cursor} (g : X → Z → Cursor → Outcome Y W) where
  pub pass_then : {o : Outcome Z X} → Passed Q d o → ((x : X) (z : Z) → Q x z → Passed P e (g x z d)) → Passed P e (then o (λ x u z. g x z u))
  pass_then (passed_ok {x} {z} q) h = h x z q
  pass_then (passed_late l) h = passed_late l

pub passed_at : {Z X : Type 0} {P : X → Z → Type 0} {d e : Cursor} {o : Outcome Z X} → d ≡ e → Passed P d o → Passed P e o
passed_at {P = P} {o = o} i h = subst (λ q. Passed P q o) i h

-- what a change makes, or a refusal for another reason than a token
pub data Sized {Z X : Type 0} (P : X → Z → Type 0) : Change Z X → Type 0 where
  sized_ok : {x : X} {z : Z} → P x z → Sized P (changed x z)
  sized_late : {f : Fault} → is_early f ≡ false → Sized P (unfit f)

pub pass_take : {Z Y : Type 0} {Q : Y → Z → Type 0} {e : Cursor} (m : Mark) (c : Cursor) (g : ℕ → Cursor → Outcome Z Y) → Is m (head c) → Passed Q e (g (place_of (head c)) (step c)) → Passed Q e (take m c g)
unfolding expected
pass_take {Q = Q} {e} m c g i h = subst (λ b. Passed Q e (check (cond b (Ok (place_of (head c))) (Err (refusal (head c)))) (step c) (λ p. g p (step c)))) (sym i) h

pub pass_taking : {Z X Y : Type 0} {Q : Y → Z → Type 0} {e : Cursor} (s : Item → Option X) (c : Cursor) (g : X → Item → Cursor → Outcome Z Y) (x : X) → s (head c) ≡ Some x → Passed Q e (g x (head c) (step c)) → Passed Q e (taking (s (head c)) c (λ x u. g x (head c) u))
pass_taking {Q = Q} {e} s c g x i h = subst (λ o. Passed Q e (taking o c (λ x u. g x (head c) u))) (sym i) h

pub pass_cond : {Z Y : Type 0} {Q : Y → Z → Type 0} {e : Cursor} (b t : Bool) (r q : Outcome Z Y) → b ≡ t → Passed Q e (cond t r q) → Passed Q e (cond b r q)
pass_cond {Q = Q} {e} b t r q i h = subst (λ b. Passed Q e (cond b r q)) (sym i) h

pub pass_perhaps : {Z X Y : Type 0} {Q : Y → Z → Type 0} {e : Cursor} (o p : Option X) (r : Outcome Z Y) (q : X → Outcome Z Y) → o ≡ p → Passed Q e (perhaps p r q) → Passed Q e (perhaps o r q)
pass_perhaps {Q = Q} {e} o p r q i h = subst (λ o. Passed Q e (perhaps o r q)) (sym i) h

-- how long rows are

pub length_both : (us vs : List Item) → length (us ++ vs) ≡ length us + length vs
length_both [] vs = omega arith
length_both (i ∷ us) vs = let h = length_both us vs in omega (arith, h)

pub one_long : {P : Item → Type 0} (us : List Item) → One P us → 1 ≤ length us
one_long us h = omega (arith, ap length h.is)

pub then_long : {G H : List Item → Type 0} (us : List Item) → ((vs : List Item) → G vs → 1 ≤ length vs) → Then G H us → 1 ≤ length us
then_long us f h = omega (arith, ap length h.is, length_both h.left h.right, f h.left h.one)

-- what the first token is
pub head_is : {H : List Item → Type 0} {P : Item → Type 0} (us : List Item) (c : Cursor) (h : Then (One P) H us) → Stands us c → P (head c)
head_is {P = P} us c h s =
    let e : us ≡ h.one.item ∷ h.right = h.is ∙ ap (λ v. v ++ h.right) h.one.is in
    subst P (sym ((subst (λ us. Stands us c) e s).0)) h.one.holds

-- readers

-- of what is of a shape, is not too long, and is followed by a token of which something is known
pub record Passes {Z X : Type 0} (G : List Item → Type 0) (R : Cursor → Type 0) (Q : X → Z → Type 0) (r : Cursor → Outcome Z X) : Type 0 where
  pub of : (us : List Item) (c : Cursor) → G us → length us ≤ most_text → Stands us c → R (past us c) → Passed Q (past us c) (r c)

abbrev pub Always : Cursor → Type 0
Always c = Unit {0}

module _ {Z X : Type 0} {R : Cursor → Type 0} {Q : X → Z → Type 0} where
  pub pass_map : {G H : List Item → Type 0} {r : Cursor → Outcome Z X} → ((us : List Item) → H us → G us) → Passes G R Q r → Passes H R Q r
  pass_map m h = record { of = λ us c g l s n. h.of us c (m us g) l s n }

  pub pass_ok : (x : X) (z : Z) → Q x z → Passes (λ us. us ≡ []) R Q (λ c. ok x c z)
  pass_ok x z q = record { of = λ us c g l s n. passed_at (ap (λ us. past us c) (sym g)) (passed_ok q) }

  pub passes_check : {Y : Type 0} {G : List Item → Type 0} (r : Result Y Fault) → Late r → (g : Y → Cursor → Outcome Z X) → ((y : Y) → Passes G R Q (g y)) → Passes G R Q (λ c. check r c (λ y. g y c))
  passes_check (Ok y) l g h = h y
  passes_check (Err f) (refuses e) g h = record { of = λ us c a l s n. passed_late e }

  pub passes_alter : {Y W : Type 0} {G : List Item → Type 0} {P : Y → W → Type 0} (r : Change W Y) → Sized P r → (g : Y → W → Cursor → Outcome Z X) → ((y : Y) (w : W) → P y w → Passes G R Q (g y w)) → Passes G R Q (λ c. alter r c (λ y w. g y w c))
  passes_alter (changed y w) (sized_ok p) g h = h y w p
  passes_alter (unfit f) (sized_late e) g h = record { of = λ us c a l s n. passed_late e }

  -- the next token, by what it is
  pub passed_next : {H : List Item → Type 0} {P : Item → Type 0} (us : List Item) (c : Cursor) (h : Then (One P) H us) → length us ≤ most_text → Stands us c → R (past us c) → {r : Cursor → Outcome Z X} → Passes H R Q r → Passed Q (past us c) (r (step c))
  passed_next us c h l s n {r} f =
      let i = h.one.item in
      let e : us ≡ i ∷ h.right = h.is ∙ ap (λ v. v ++ h.right) h.one.is in
      let t = subst (λ us. Stands us c) e s in
      passed_at (sym (ap (λ us. past us c) e)) (f.of h.right (step c) h.two (omega (arith, l, ap length e)) t.1 (subst (λ us. R (past us c)) e n))

  pub passes_take : {H : List Item → Type 0} (m : Mark) (g : ℕ → Cursor → Outcome Z X) → ((p : ℕ) → Passes H R Q (g p)) → Passes (Then (One (Is m)) H) R Q (λ c. take m c g)
  passes_take m g f = record { of = λ us c h l s n. pass_take m c g (head_is us c h s) (passed_next us c h l s n (f (place_of (head c)))) }

  pub passes_taking : {Y : Type 0} {H : List Item → Type 0} (s : Item → Option Y) (g : Y → Item → Cursor → Outcome Z X) → ((y : Y) (i : Item) → Passes H R Q (g y i)) → Passes (Then (One (λ i. (y : Y) × (s i ≡ Some y))) H) R Q (λ c. taking (s (head c)) c (λ y u. g y (head c) u))
  passes_taking s g f = record { of = λ us c h l t n. let y = head_is us c h t in pass_taking s c g y.0 y.1 (passed_next us c h l t n (f y.0 (head c))) }

  -- one reader and another: what is known of the token after the first follows from what the second passes
  pub passed_then : {W Y : Type 0} {G H : List Item → Type 0} {S : Cursor → Type 0} {P : W → Y → Type 0} {r : Cursor → Outcome Y W} (g : W → Y → Cursor → Outcome Z X) → (us : List Item) (c : Cursor) (h : Then G H us) → length us ≤ most_text → Stands us c → R (past us c) → ((vs : List Item) (u : Cursor) → H vs → Stands vs u → R (past vs u) → S u) → Passes G S P r → ((w : W) (y : Y) → P w y → Passes H R Q (g w y)) → Passed Q (past us c) (then (r c) (λ w u y. g w y u))
  passed_then g us c h l s n follow f k =
      let e = h.is in
      let t = subst (λ us. Stands us c) e s in
      let i : past us c ≡ past h.right (past h.left c) = ap (λ us. past us c) e ∙ past_both h.left h.right c in
      let m = subst R i n in
      let t₁ = stands_front h.left h.right c t in
      let t₂ = stands_back h.left h.right c t in
      let q = length_both h.left h.right in
      passed_at (sym i) (pass_then g (f.of h.left c h.one (omega (arith, l, ap length e, q)) t₁ (follow h.right (past h.left c) h.two t₂ m)) (λ w y p. (k w y p).of h.right (past h.left c) h.two (omega (arith, l, ap length e, q)) t₂ m))

  pub passes_then : {W Y : Type 0} {G H : List Item → Type 0} {S : Cursor → Type 0} {P : W → Y → Type 0} {r : Cursor → Outcome Y W} (g : W → Y → Cursor → Outcome Z X) → ((vs : List Item) (u : Cursor) → H vs → Stands vs u → R (past vs u) → S u) → Passes G S P r → ((w : W) (y : Y) → P w y → Passes H R Q (g w y)) → Passes (Then G H) R Q (λ c. then (r c) (λ w u y. g w y u))
  passes_then g follow f k = record { of = λ us c h l s n. passed_then g us c h l s n follow f k }

-- nothing more in a row
pub and_nothing : {G : List Item → Type 0} (us : List Item) → G us → Then G (λ vs. vs ≡ []) us
and_nothing us g = record { left = us; right = []; is = sym (append-nil us); one = g; two = refl }
