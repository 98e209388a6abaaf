-- What a reader tells: after how many tokens it is done, that it does the same wherever these are the same, and of what shape they are; where
-- it refuses a token, that those before it are the beginning of that shape.
use Rattle.std.specs.Prelude.{◌⊎◌}
use Rattle.std.proofs.Common.{◌≡◌, ℕ, zero, suc, ◌+◌, ◌≤◌, Bool, true, false, cond, List, [], ◌∷◌, ◌++◌, Some, None, Ok, Err, Option, Result, refl, sym, ap, subst, ◌∙◌, inl, inr, ⊎_elim, append_assoc, arith}
use Rattle.faults.specs.declared.Fault.{Fault}
use Rattle.faults.specs.declared.Fault.TheVariants as fault
use Rattle.tokens.specs.declared.mark.Mark.{Mark}
use Rattle.tokens.specs.declared.mark.Mark.TheVariants as mark
use Rattle.tokens.specs.declared.token.Word.TheVariants as words
use Rattle.tokens.specs.declared.token.Sign.TheVariants as signs
use Rattle.tokens.specs.Lexing.{name, word, sign, end}
use Rattle.tokens.specs.Items.{Item, at, place_of, is_mark, refusal}
use Rattle.tokens.specs.Cursors.{Cursor, head, step, expected}
use Rattle.tokens.specs.Outcomes.{Outcome, ok, fail, then, refused, check, take, taking, perhaps, Change, changed, unfit, alter}
use Rattle.reader.specs.Settled.{after, taken, Alike, Onward, may_be_put_off, Ends, is_early, Refuses}
use Rattle.reader.specs.Grammar.{Is, IsName, One, Then, Many, no_more}

abbrev pub Shape : Type 1
Shape = List Item → Type 0

-- some tokens in a row are of that shape
abbrev pub Full : Shape → Type 0
Full G = (us : List Item) × G us

-- what a reader looks at after the tokens that it takes: nothing, whether a ' sign or a ":" is next, or the next token
pub data Ahead : Type 0 where
  nothing : Ahead
  onward : Ahead
  first : Ahead

-- how soon a reader may be done: after a token or more; with none only where it accepts, or refuses what the next token may put off; or at once
pub data Kind : Type 0 where
  starts : Kind
  soft : Kind
  free : Kind

abbrev pub Next : Ahead → Cursor → Cursor → Type 0
Next nothing c d = Unit {0}
Next onward c d = Onward c d
Next first c d = head c ≡ head d

abbrev pub Begins : Kind → ℕ → Type 0
Begins starts n = 1 ≤ n
Begins soft n = Unit {0}
Begins free n = Unit {0}

abbrev pub Ready : Kind → ℕ → Bool → Type 0
Ready starts n s = 1 ≤ n
Ready soft n s = (1 ≤ n) ⊎ (s ≡ true)
Ready free n s = Unit {0}

module _ {Z X : Type 0} where
  pub record Took (k : Kind) (a : Ahead) (G : Shape) (r : Cursor → Outcome Z X) (c : Cursor) (x : X) (e : Cursor) (z : Z) : Type 0 where
    pub count : ℕ
    pub begins : Begins k count
    pub left : e ≡ after count c
    pub shape : G (taken count c)
    pub again : (d : Cursor) → Alike count c d → Next a e (after count d) → r d ≡ ok x (after count d) z

  pub record Fell (k : Kind) (G : Shape) (r : Cursor → Outcome Z X) (c : Cursor) (f : Fault) (e : Cursor) : Type 0 where
    pub count : ℕ
    pub ready : Ready k count (may_be_put_off f)
    pub left : e ≡ after count c
    pub early : is_early f ≡ true → Refuses G c f count
    pub again : (d : Cursor) → Alike count c d → Ends f e (after count d) → r d ≡ fail f (after count d)

  pub data Told (k : Kind) (a : Ahead) (G : Shape) (r : Cursor → Outcome Z X) (c : Cursor) : Outcome Z X → Type 0 where
    told_ok : {x : X} {e : Cursor} {z : Z} → Took k a G r c x e z → Told k a G r c (ok x e z)
    told_fail : {f : Fault} {e : Cursor} → Fell k G r c f e → Told k a G r c (fail f e)

  pub record Tells (k : Kind) (a : Ahead) (G : Shape) (r : Cursor → Outcome Z X) : Type 0 where
    pub of : (c : Cursor) → Told k a G r c (r c)

-- counts of tokens

one_more : (m n : ℕ) → suc m + n ≡ suc (m + n)
one_more m n = omega arith

more_after : (m n : ℕ) → m + suc n ≡ suc (m + n)
more_after m n = omega arith

none_more : (n : ℕ) → 0 + n ≡ n
none_more n = omega arith

after_plus : (m n : ℕ) (c : Cursor) → after (m + n) c ≡ after n (after m c)
after_plus zero n c = ap (λ k. after k c) (none_more n)
after_plus (suc m) n c = ap (λ k. after k c) (one_more m n) ∙ after_plus m n (step c)

alike_front : (m n : ℕ) (c d : Cursor) → Alike (m + n) c d → Alike m c d
alike_front zero n c d h = tt
alike_front (suc m) n c d h = let g : Alike (suc (m + n)) c d = subst (λ k. Alike k c d) (one_more m n) h in (g.0, alike_front m n (step c) (step d) g.1)

alike_back : (m n : ℕ) (c d : Cursor) → Alike (m + n) c d → Alike n (after m c) (after m d)
alike_back zero n c d h = subst (λ k. Alike k c d) (none_more n) h
alike_back (suc m) n c d h = let g : Alike (suc (m + n)) c d = subst (λ k. Alike k c d) (one_more m n) h in alike_back m n (step c) (step d) g.1

taken_plus : (m n : ℕ) (c : Cursor) → taken (m + n) c ≡ taken m c ++ taken n (after m c)
taken_plus zero n c = ap (λ k. taken k c) (none_more n)
taken_plus (suc m) n c = ap (λ k. taken k c) (one_more m n) ∙ ap (λ us. head c ∷ us) (taken_plus m n (step c))

pub heads : (n : ℕ) (c d : Cursor) → 1 ≤ n → Alike n c d → head c ≡ head d
heads zero c d h a = absurd (omega (arith, h))
heads (suc n) c d h a = a.0

-- an example of each mark

abbrev pub example : Mark → Item
example mark.Semicolon = at (sign signs.Semicolon) 0
example mark.Colon = at (sign signs.Colon) 0
example mark.OpenBrace = at (sign signs.OpenBrace) 0
example mark.CloseBrace = at (sign signs.CloseBrace) 0
example mark.OpenParen = at (sign signs.OpenParen) 0
example mark.CloseParen = at (sign signs.CloseParen) 0
example mark.CloseBracket = at (sign signs.CloseBracket) 0
example mark.Bar = at (sign signs.Bar) 0
example mark.Prime = at (sign signs.Prime) 0
example mark.Atoms = at (word words.Atoms) 0
example mark.Horizon = at (word words.Horizon) 0
example mark.Formula = at (word words.Formula) 0
example mark.End = at end 0

example_is : (m : Mark) → is_mark m (example m) ≡ true
example_is mark.Semicolon = refl
example_is mark.Colon = refl
example_is mark.OpenBrace = refl
example_is mark.CloseBrace = refl
example_is mark.OpenParen = refl
example_is mark.CloseParen = refl
example_is mark.CloseBracket = refl
example_is mark.Bar = refl
example_is mark.Prime = refl
example_is mark.Atoms = refl
example_is mark.Horizon = refl
example_is mark.Formula = refl
example_is mark.End = refl

pub full_one : {P : Item → Type 0} (i : Item) → P i → Full (One P)
full_one i p = (i ∷ [], record { item = i; is = refl; holds = p })

pub full_mark : (m : Mark) → Full (One (Is m))
full_mark m = full_one (example m) (example_is m)

pub full_name : Full (One IsName)
full_name = full_one (at (name []) 0) ([], refl)

pub full_then : {G H : Shape} → Full G → Full H → Full (Then G H)
full_then a b = (a.0 ++ b.0, record { left = a.0; right = b.0; is = refl; one = a.1; two = b.1 })

pub full_many : {G : Shape} → Full (Many G)
full_many = ([], no_more)

-- a refusal that may be put off is of no token
pub put_off_late : (f : Fault) → may_be_put_off f ≡ true → is_early f ≡ false
put_off_late fault.TextTooLong e = absurd cc
put_off_late (fault.NoToken p) e = absurd cc
put_off_late (fault.TokenTooLong p) e = absurd cc
put_off_late (fault.NotAllowed p) e = absurd cc
put_off_late (fault.NameKnown p) e = refl
put_off_late (fault.NameUnknown p) e = refl
put_off_late (fault.ArityMismatch p) e = refl
put_off_late (fault.OverLimit p) e = refl
put_off_late (fault.LowerOutsideUpper p) e = refl
put_off_late (fault.TooManyFreePlaces p) e = refl
put_off_late (fault.EndsEarly p) e = refl
put_off_late (fault.NotShortest p) e = refl
put_off_late (fault.UnknownEdition p) e = refl
put_off_late (fault.OutsideLimits p) e = refl
put_off_late (fault.PlaceOutOfOrder p) e = refl
put_off_late (fault.BytesLeftOver p) e = refl
put_off_late fault.FewerStatesWouldDo e = refl
put_off_late fault.TooManyBytes e = refl
put_off_late fault.PlaceCountsDiffer e = refl
put_off_late (fault.Contradiction p i) e = refl
put_off_late fault.NoConfiguration e = refl
put_off_late fault.NoMoreTraces e = refl
put_off_late fault.NoMoreConfigurations e = refl
put_off_late fault.BufferTooShort e = refl
put_off_late fault.OutsideSource e = refl

-- simple readers

pub tell_ok : {Z X : Type 0} {k : Kind} {a : Ahead} {G : Shape} (x : X) (z : Z) → Begins k 0 → G [] → Tells {Z = Z} {X = X} k a G (λ c. ok x c z)
tell_ok x z b g = record { of = λ c. told_ok (record { count = 0; begins = b; left = refl; shape = g; again = λ d h n. refl }) }

pub tell_fail : {Z X : Type 0} {a : Ahead} {G : Shape} (f : Fault) → is_early f ≡ false → Tells {Z = Z} {X = X} free a G (λ c. fail f c)
tell_fail f e = record { of = λ c. told_fail (record { count = 0; ready = tt; left = refl; early = λ t. absurd (let z : true ≡ false = sym t ∙ e in cc); again = λ d h n. refl }) }

pub tell_put_off : {Z X : Type 0} {a : Ahead} {G : Shape} (f : Fault) → may_be_put_off f ≡ true → Tells {Z = Z} {X = X} soft a G (λ c. fail f c)
tell_put_off f e = record { of = λ c. told_fail (record { count = 0; ready = inr e; left = refl; early = λ t. absurd (let z : true ≡ false = sym t ∙ put_off_late f e in cc); again = λ d h n. refl }) }

-- the same reader; another shape; and the same with less said of how soon it is done

module _ {Z X : Type 0} {k : Kind} {a : Ahead} {G : Shape} {r q : Cursor → Outcome Z X} (e : (c : Cursor) → r c ≡ q c) where
  pub told_like : {c : Cursor} {o : Outcome Z X} → Told k a G q c o → Told k a G r c o
  told_like (told_ok t) = told_ok (record { count = t.count; begins = t.begins; left = t.left; shape = t.shape; again = λ d l n. e d ∙ t.again d l n })
  told_like (told_fail t) = told_fail (record { count = t.count; ready = t.ready; left = t.left; early = t.early; again = λ d l n. e d ∙ t.again d l n })

  pub tell_like : Tells k a G q → Tells k a G r
  tell_like h = record { of = λ c. subst (Told k a G r c) (sym (e c)) (told_like (h.of c)) }

module _ {Z X : Type 0} {k : Kind} {a : Ahead} {G H : Shape} (m : (us : List Item) → G us → H us) where
  pub told_map : {r : Cursor → Outcome Z X} {c : Cursor} {o : Outcome Z X} → Told k a G r c o → Told k a H r c o
  told_map (told_ok t) = told_ok (record { count = t.count; begins = t.begins; left = t.left; shape = m _ t.shape; again = t.again })
  told_map (told_fail t) = told_fail (record { count = t.count; ready = t.ready; left = t.left; early = λ u. let b = t.early u in record { before = b.before; last = b.last; refused = b.refused; rest = b.rest; shape = m _ b.shape }; again = t.again })

  pub tell_map : {r : Cursor → Outcome Z X} → Tells k a G r → Tells k a H r
  tell_map h = record { of = λ c. told_map (h.of c) }

module _ {Z X : Type 0} {a : Ahead} {G : Shape} {r : Cursor → Outcome Z X} where
  told_free : {k : Kind} {c : Cursor} {o : Outcome Z X} → Told k a G r c o → Told free a G r c o
  told_free (told_ok t) = told_ok (record { count = t.count; begins = tt; left = t.left; shape = t.shape; again = t.again })
  told_free (told_fail t) = told_fail (record { count = t.count; ready = tt; left = t.left; early = t.early; again = t.again })

  pub tell_free : {k : Kind} → Tells k a G r → Tells free a G r
  tell_free h = record { of = λ c. told_free (h.of c) }

-- the next token, and then what it leads to; or the next token refused

module _ {Z X : Type 0} {a : Ahead} (g : Item → Cursor → Outcome Z X) where
  pub told_next : {k : Kind} {H : Shape} {P : Item → Type 0} (c : Cursor) {o : Outcome Z X} → P (head c) → Told k a H (g (head c)) (step c) o → Told starts a (Then (One P) H) (λ d. g (head d) (step d)) c o
  told_next c p (told_ok {x} {e} {z} t) = told_ok (record {
    count = suc t.count;
    begins = omega arith;
    left = t.left;
    shape = record { left = head c ∷ []; right = taken t.count (step c); is = refl; one = record { item = head c; is = refl; holds = p }; two = t.shape };
    again = λ d l n. subst (λ i. g i (step d) ≡ ok x (after t.count (step d)) z) l.0 (t.again (step d) l.1 n);
  })
  told_next c p (told_fail {f} {e} t) = told_fail (record {
    count = suc t.count;
    ready = omega arith;
    left = t.left;
    early = λ u. let b = t.early u in record { before = suc b.before; last = ap (λ q. suc q) b.last; refused = b.refused; rest = b.rest; shape = record { left = head c ∷ []; right = taken b.before (step c) ++ b.rest; is = refl; one = record { item = head c; is = refl; holds = p }; two = b.shape } };
    again = λ d l n. subst (λ i. g i (step d) ≡ fail f (after t.count (step d))) l.0 (t.again (step d) l.1 n);
  })

  pub told_refused : {G : Shape} (c : Cursor) → ((e : Cursor) → g (head c) e ≡ fail (refusal (head c)) e) → Full G → Told starts a G (λ d. g (head d) (step d)) c (fail (refusal (head c)) (step c))
  told_refused c h full = told_fail (record {
    count = 1;
    ready = omega arith;
    left = refl;
    early = λ u. record { before = 0; last = refl; refused = refl; rest = full.0; shape = full.1 };
    again = λ d l n. subst (λ i. g i (step d) ≡ fail (refusal (head c)) (step d)) l.0 (h (step d));
  })

pub tell_refused : {Z X : Type 0} {a : Ahead} {G : Shape} → Full G → Tells {Z = Z} {X = X} starts a G refused
tell_refused full = record { of = λ c. told_refused (λ i e. fail (refusal i) e) c (λ e. refl) full }

-- tests that a token settles which stands where it may

pub data Late {X : Type 0} : Result X Fault → Type 0 where
  passes : {x : X} → Late (Ok x)
  refuses : {f : Fault} → is_early f ≡ false → Late (Err f)

pub data LateChange {Z X : Type 0} : Change Z X → Type 0 where
  alters : {x : X} {z : Z} → LateChange (changed x z)
  keeps : {f : Fault} → is_early f ≡ false → LateChange (unfit f)

pub tell_check : {Z X Y : Type 0} {k : Kind} {a : Ahead} {G : Shape} (r : Result X Fault) → Late r → (g : X → Cursor → Outcome Z Y) → ((x : X) → Tells k a G (g x)) → Tells free a G (λ c. check r c (λ x. g x c))
tell_check (Ok x) l g h = tell_free (h x)
tell_check (Err f) (refuses e) g h = tell_fail f e

pub tell_alter : {Z W X Y : Type 0} {k : Kind} {a : Ahead} {G : Shape} (r : Change Z X) → LateChange r → (g : X → Z → Cursor → Outcome W Y) → ((x : X) (z : Z) → Tells k a G (g x z)) → Tells free a G (λ c. alter r c (λ x z. g x z c))
tell_alter (changed x z) l g h = tell_free (h x z)
tell_alter (unfit f) (keeps e) g h = tell_fail f e

-- tests whose refusal the next token may put off

pub data Mild {X : Type 0} : Result X Fault → Type 0 where
  passed : {x : X} → Mild (Ok x)
  put_off : {f : Fault} → may_be_put_off f ≡ true → Mild (Err f)

pub data Gentle {Z X : Type 0} : Change Z X → Type 0 where
  altered : {x : X} {z : Z} → Gentle (changed x z)
  kept : {f : Fault} → may_be_put_off f ≡ true → Gentle (unfit f)

pub mild_late : {X : Type 0} {r : Result X Fault} → Mild r → Late r
mild_late passed = passes
mild_late (put_off {f} e) = refuses (put_off_late f e)

pub gentle_late : {Z X : Type 0} {c : Change Z X} → Gentle c → LateChange c
gentle_late altered = alters
gentle_late (kept {f} e) = keeps (put_off_late f e)

pub tell_mild : {Z X Y : Type 0} {a : Ahead} {G : Shape} (r : Result X Fault) → Mild r → (g : X → Cursor → Outcome Z Y) → ((x : X) → Tells soft a G (g x)) → Tells soft a G (λ c. check r c (λ x. g x c))
tell_mild (Ok x) m g h = h x
tell_mild (Err f) (put_off e) g h = tell_put_off f e

pub tell_gentle : {Z W X Y : Type 0} {a : Ahead} {G : Shape} (r : Change Z X) → Gentle r → (g : X → Z → Cursor → Outcome W Y) → ((x : X) (z : Z) → Tells soft a G (g x z)) → Tells soft a G (λ c. alter r c (λ x z. g x z c))
tell_gentle (changed x z) m g h = h x z
tell_gentle (unfit f) (kept e) g h = tell_put_off f e

-- a mark, or a token of some kind

pub tell_take : {Z Y : Type 0} {k : Kind} {a : Ahead} {H : Shape} (m : Mark) → Full H → (g : ℕ → Cursor → Outcome Z Y) → ((p : ℕ) → Tells k a H (g p)) → Tells starts a (Then (One (Is m)) H) (λ c. take m c g)
unfolding expected
tell_take {Z} {Y} {k} {a} {H} m full g h = record { of = λ c. go c (is_mark m (head c)) refl }
  where
    by : Item → Bool → Cursor → Outcome Z Y
    by i b c = check (cond b (Ok (place_of i)) (Err (refusal i))) c (λ p. g p c)

    reads : Item → Cursor → Outcome Z Y
    reads i c = by i (is_mark m i) c

    go : (c : Cursor) (b : Bool) → is_mark m (head c) ≡ b → Told starts a (Then (One (Is m)) H) (λ d. reads (head d) (step d)) c (by (head c) b (step c))
    go c true e = told_next reads c e (told_like (λ u. ap (λ b. by (head c) b u) e) ((h (place_of (head c))).of (step c)))
    go c false e = told_refused reads c (λ u. ap (λ b. by (head c) b u) e) (full_then (full_mark m) full)

abbrev chosen : {Z X Y : Type 0} → Option X → (X → Item → Cursor → Outcome Z Y) → Item → Cursor → Outcome Z Y
chosen None g i c = fail (refusal i) c
chosen (Some x) g i c = g x i c

taking_chosen : {Z X Y : Type 0} (o : Option X) (g : X → Item → Cursor → Outcome Z Y) (c : Cursor) → taking o c (λ x e. g x (head c) e) ≡ chosen o g (head c) (step c)
taking_chosen None g c = refl
taking_chosen (Some x) g c = refl

pub tell_taking : {Z X Y : Type 0} {k : Kind} {a : Ahead} {H : Shape} (s : Item → Option X) → Full (One (λ i. (x : X) × (s i ≡ Some x))) → Full H → (g : X → Item → Cursor → Outcome Z Y) → ((x : X) (i : Item) → Tells k a H (g x i)) → Tells starts a (Then (One (λ i. (x : X) × (s i ≡ Some x))) H) (λ c. taking (s (head c)) c (λ x e. g x (head c) e))
tell_taking {Z} {X} {Y} {k} {a} {H} s some full g h = tell_like (λ c. taking_chosen (s (head c)) g c) (record { of = λ c. go c (s (head c)) refl })
  where
    go : (c : Cursor) (o : Option X) → s (head c) ≡ o → Told starts a (Then (One (λ i. (x : X) × (s i ≡ Some x))) H) (λ d. chosen (s (head d)) g (head d) (step d)) c (chosen o g (head c) (step c))
    go c None e = told_refused (λ i u. chosen (s i) g i u) c (λ u. ap (λ o. chosen o g (head c) u) e) (full_then some full)
    go c (Some x) e = told_next (λ i u. chosen (s i) g i u) c (x, e) (told_like (λ u. ap (λ o. chosen o g (head c) u) e) ((h x (head c)).of (step c)))

-- what goes on where the next token allows it, and else is done

module _ {Z X : Type 0} {a : Ahead} {G : Shape} (x : X) (z : Z) (none : G []) where
  tell_may : {B : Type 0} (s : Item → B) (g : B → Cursor → Outcome Z X) (c : Cursor) → ((d : Cursor) → Next a c d → s (head c) ≡ s (head d)) → Told starts a G (g (s (head c))) c (g (s (head c)) c) ⊎ ((d : Cursor) → g (s (head c)) d ≡ ok x d z) → Told soft a G (λ d. g (s (head d)) d) c (g (s (head c)) c)
  tell_may s g c same (inl t) = go (g (s (head c)) c) t
    where
      go : (o : Outcome Z X) → Told starts a G (g (s (head c))) c o → Told soft a G (λ d. g (s (head d)) d) c o
      go o (told_ok {x = y} {e = e} {z = w} t) = told_ok (record { count = t.count; begins = tt; left = t.left; shape = t.shape; again = λ d l n. subst (λ b. g b d ≡ ok y (after t.count d) w) (ap s (heads t.count c d t.begins l)) (t.again d l n) })
      go o (told_fail {f = f} {e = e} t) = told_fail (record { count = t.count; ready = inl t.ready; left = t.left; early = t.early; again = λ d l n. subst (λ b. g b d ≡ fail f (after t.count d)) (ap s (heads t.count c d t.ready l)) (t.again d l n) })
  tell_may s g c same (inr e) = subst (Told soft a G (λ d. g (s (head d)) d) c) (sym (e c)) (told_ok (record { count = 0; begins = tt; left = refl; shape = none; again = λ d l n. subst (λ b. g b d ≡ ok x d z) (same d n) (e d) }))

  pub tell_where : (s : Item → Bool) (r : Cursor → Outcome Z X) → ((c d : Cursor) → Next a c d → s (head c) ≡ s (head d)) → ((c : Cursor) → s (head c) ≡ true → Told starts a G r c (r c)) → Tells soft a G (λ c. cond (s (head c)) (r c) (ok x c z))
  tell_where s r same h = record { of = λ c. tell_may s (λ b d. cond b (r d) (ok x d z)) c (same c) (go c (s (head c)) refl) }
    where
      go : (c : Cursor) (b : Bool) → s (head c) ≡ b → Told starts a G (λ d. cond b (r d) (ok x d z)) c (cond b (r c) (ok x c z)) ⊎ ((d : Cursor) → cond b (r d) (ok x d z) ≡ ok x d z)
      go c true e = inl (h c e)
      go c false e = inr (λ d. refl)

  pub tell_unless : (s : Item → Bool) (r : Cursor → Outcome Z X) → ((c d : Cursor) → Next a c d → s (head c) ≡ s (head d)) → Tells starts a G r → Tells soft a G (λ c. cond (s (head c)) (ok x c z) (r c))
  tell_unless s r same h = record { of = λ c. tell_may s (λ b d. cond b (ok x d z) (r d)) c (same c) (go c (s (head c))) }
    where
      go : (c : Cursor) (b : Bool) → Told starts a G (λ d. cond b (ok x d z) (r d)) c (cond b (ok x c z) (r c)) ⊎ ((d : Cursor) → cond b (ok x d z) (r d) ≡ ok x d z)
      go c true = inr (λ d. refl)
      go c false = inl (h.of c)

  pub tell_perhaps : {B : Type 0} (s : Item → Option B) (r : B → Cursor → Outcome Z X) → ((c d : Cursor) → Next a c d → s (head c) ≡ s (head d)) → ((c : Cursor) (b : B) → s (head c) ≡ Some b → Told starts a G (r b) c (r b c)) → Tells soft a G (λ c. perhaps (s (head c)) (ok x c z) (λ b. r b c))
  tell_perhaps {B} s r same h = record { of = λ c. tell_may s (λ o d. perhaps o (ok x d z) (λ b. r b d)) c (same c) (go c (s (head c)) refl) }
    where
      go : (c : Cursor) (o : Option B) → s (head c) ≡ o → Told starts a G (λ d. perhaps o (ok x d z) (λ b. r b d)) c (perhaps o (ok x c z) (λ b. r b c)) ⊎ ((d : Cursor) → perhaps o (ok x d z) (λ b. r b d) ≡ ok x d z)
      go c None e = inr (λ d. refl)
      go c (Some b) e = inl (h c b e)

-- one reader or another, by the next token

pub tell_either : {Z X : Type 0} {G : Shape} (s : Item → Bool) (r q : Cursor → Outcome Z X) → ((c d : Cursor) → Onward c d → s (head c) ≡ s (head d)) → ((c : Cursor) → s (head c) ≡ true → Told starts onward G r c (r c)) → Tells soft onward G q → Tells soft onward G (λ c. cond (s (head c)) (r c) (q c))
tell_either {Z} {X} {G} s r q same h i = record { of = λ c. go c (s (head c)) refl }
  where
    onward_at : (n : ℕ) (c d : Cursor) → Alike n c d → Onward (after n c) (after n d) → s (head c) ≡ s (head d)
    onward_at zero c d l m = same c d m
    onward_at (suc n) c d l m = ap s l.0

    soon : (n : ℕ) (f : Fault) (c d : Cursor) → ((1 ≤ n) ⊎ (may_be_put_off f ≡ true)) → Alike n c d → Ends f (after n c) (after n d) → s (head c) ≡ s (head d)
    soon zero f c d g l m = ⊎_elim (λ z. absurd (omega (arith, z))) (λ e. same c d (m e)) g
    soon (suc n) f c d g l m = ap s l.0

    first : (c : Cursor) → s (head c) ≡ true → (o : Outcome Z X) → Told starts onward G r c o → Told soft onward G (λ c. cond (s (head c)) (r c) (q c)) c o
    first c e o (told_ok t) = told_ok (record { count = t.count; begins = tt; left = t.left; shape = t.shape; again = λ d l n. ap (λ b. cond b (r d) (q d)) (sym (ap s (heads t.count c d t.begins l)) ∙ e) ∙ t.again d l n })
    first c e o (told_fail t) = told_fail (record { count = t.count; ready = inl t.ready; left = t.left; early = t.early; again = λ d l n. ap (λ b. cond b (r d) (q d)) (sym (ap s (heads t.count c d t.ready l)) ∙ e) ∙ t.again d l n })

    second : (c : Cursor) → s (head c) ≡ false → (o : Outcome Z X) → Told soft onward G q c o → Told soft onward G (λ c. cond (s (head c)) (r c) (q c)) c o
    second c e o (told_ok t) = told_ok (record { count = t.count; begins = tt; left = t.left; shape = t.shape; again = λ d l n. ap (λ b. cond b (r d) (q d)) (sym (onward_at t.count c d l (subst (λ u. Onward u (after t.count d)) t.left n)) ∙ e) ∙ t.again d l n })
    second c e o (told_fail {f} t) = told_fail (record { count = t.count; ready = t.ready; left = t.left; early = t.early; again = λ d l n. ap (λ b. cond b (r d) (q d)) (sym (soon t.count f c d t.ready l (subst (λ u. Ends f u (after t.count d)) t.left n)) ∙ e) ∙ t.again d l n })

    go : (c : Cursor) (b : Bool) → s (head c) ≡ b → Told soft onward G (λ c. cond (s (head c)) (r c) (q c)) c (cond b (r c) (q c))
    go c true e = first c e (r c) (h c e)
    go c false e = second c e (q c) (i.of c)

-- by what a reader's first token is, or its place
pub told_by : {B Z X : Type 0} {a : Ahead} {G : Shape} (s : Item → B) (g : B → Cursor → Outcome Z X) (c : Cursor) {o : Outcome Z X} → Told starts a G (g (s (head c))) c o → Told starts a G (λ d. g (s (head d)) d) c o
told_by s g c (told_ok {x} {e} {z} t) = told_ok (record { count = t.count; begins = t.begins; left = t.left; shape = t.shape; again = λ d l n. subst (λ q. g q d ≡ ok x (after t.count d) z) (ap s (heads t.count c d t.begins l)) (t.again d l n) })
told_by s g c (told_fail {f} {e} t) = told_fail (record { count = t.count; ready = t.ready; left = t.left; early = t.early; again = λ d l n. subst (λ q. g q d ≡ fail f (after t.count d)) (ap s (heads t.count c d t.ready l)) (t.again d l n) })

pub tell_by : {B Z X : Type 0} {a : Ahead} {G : Shape} (s : Item → B) (g : B → Cursor → Outcome Z X) → ((b : B) → Tells starts a G (g b)) → Tells starts a G (λ c. g (s (head c)) c)
tell_by s g h = record { of = λ c. told_by s g c ((h (s (head c))).of c) }

-- one reader after another

-- what a reader looks at is seen by the next one, which takes a token or looks as far
abbrev pub Joins : Ahead → Kind → Ahead → Type 0
Joins nothing k b = Unit {0}
Joins onward starts b = Unit {0}
Joins onward soft nothing = ⊥
Joins onward soft onward = Unit {0}
Joins onward soft first = ⊥
Joins onward free b = ⊥
Joins first starts b = Unit {0}
Joins first soft b = ⊥
Joins first free b = ⊥

-- a soft reader is followed by none that refuses at once
abbrev pub Follows : Kind → Kind → Type 0
Follows starts k = Unit {0}
Follows soft starts = Unit {0}
Follows soft soft = Unit {0}
Follows soft free = ⊥
Follows free k = Unit {0}

same_next : (a : Ahead) (c d : Cursor) → head c ≡ head d → Next a c d
same_next nothing c d e = tt
same_next onward c d e = (ap (is_mark mark.Prime) e, ap (is_mark mark.Colon) e)
same_next first c d e = e

-- what the first of two looks at is the same in two texts, where the second accepts or refuses alike
seen_ok : (a : Ahead) (k : Kind) (b : Ahead) → Joins a k b → (n : ℕ) (c d : Cursor) → Begins k n → Alike n c d → Next b (after n c) (after n d) → Next a c d
seen_ok nothing k b j n c d g l m = tt
seen_ok onward starts b j n c d g l m = same_next onward c d (heads n c d g l)
seen_ok onward soft nothing j n c d g l m = absurd j
seen_ok onward soft first j n c d g l m = absurd j
seen_ok onward soft onward j zero c d g l m = m
seen_ok onward soft onward j (suc n) c d g l m = same_next onward c d l.0
seen_ok onward free b j n c d g l m = absurd j
seen_ok first starts b j n c d g l m = heads n c d g l
seen_ok first soft b j n c d g l m = absurd j
seen_ok first free b j n c d g l m = absurd j

seen_fail : (a : Ahead) (k : Kind) (b : Ahead) → Joins a k b → (f : Fault) (n : ℕ) (c d : Cursor) → Ready k n (may_be_put_off f) → Alike n c d → Ends f (after n c) (after n d) → Next a c d
seen_fail nothing k b j f n c d g l m = tt
seen_fail onward starts b j f n c d g l m = same_next onward c d (heads n c d g l)
seen_fail onward soft nothing j f n c d g l m = absurd j
seen_fail onward soft first j f n c d g l m = absurd j
seen_fail onward soft onward j f zero c d g l m = ⊎_elim (λ h. absurd (omega (arith, h))) m g
seen_fail onward soft onward j f (suc n) c d g l m = same_next onward c d l.0
seen_fail onward free b j f n c d g l m = absurd j
seen_fail first starts b j f n c d g l m = heads n c d g l
seen_fail first soft b j f n c d g l m = absurd j
seen_fail first free b j f n c d g l m = absurd j

begins_plus : (k : Kind) (m n : ℕ) → Begins k m → Begins k (m + n)
begins_plus starts m n h = omega (arith, h)
begins_plus soft m n h = tt
begins_plus free m n h = tt

ready_plus : (k l : Kind) → Follows k l → (m n : ℕ) (s : Bool) → Begins k m → Ready l n s → Ready k (m + n) s
ready_plus starts l j m n s h g = omega (arith, h)
ready_plus soft starts j m n s h g = inl (omega (arith, g))
ready_plus soft soft j m n s h g = ⊎_elim (λ e. inl (omega (arith, e))) inr g
ready_plus soft free j m n s h g = absurd j
ready_plus free l j m n s h g = tt

module _ {Z Y X W : Type 0} {k l : Kind} {a b : Ahead} {G H : Shape} {r : Cursor → Outcome Z X} (g : X → Z → Cursor → Outcome Y W) (follows : Follows k l) (joins : Joins a l b) where
  after_ok : (c : Cursor) {x : X} {e : Cursor} {z : Z} → Took k a G r c x e z → {o : Outcome Y W} → Told l b H (g x z) e o → Told k b (Then G H) (λ d. then (r d) (λ x u z. g x z u)) c o
  after_ok c {x} {e} {z} t (told_ok {x = y} {e = u} {z = w} h) = told_ok (record {
    count = t.count + h.count;
    begins = begins_plus k t.count h.count t.begins;
    left = h.left ∙ ap (after h.count) t.left ∙ sym (after_plus t.count h.count c);
    shape = record { left = taken t.count c; right = taken h.count e; is = taken_plus t.count h.count c ∙ ap (λ q. taken t.count c ++ taken h.count q) (sym t.left); one = t.shape; two = h.shape };
    again = λ d n m.
        let v = after t.count d in
        let n₁ : Alike h.count e v = subst (λ q. Alike h.count q v) (sym t.left) (alike_back t.count h.count c d n) in
        let m₁ : Next b u (after h.count v) = subst (λ q. Next b u q) (after_plus t.count h.count d) m in
        let m₂ : Next b (after h.count e) (after h.count v) = subst (λ q. Next b q (after h.count v)) h.left m₁ in
        ap (λ o. then o (λ x u z. g x z u)) (t.again d (alike_front t.count h.count c d n) (seen_ok a l b joins h.count e v h.begins n₁ m₂)) ∙ h.again v n₁ m₁ ∙ ap (λ q. ok y q w) (sym (after_plus t.count h.count d));
  })
  after_ok c {x} {e} {z} t (told_fail {f = f} {e = u} h) = told_fail (record {
    count = t.count + h.count;
    ready = ready_plus k l follows t.count h.count (may_be_put_off f) t.begins h.ready;
    left = h.left ∙ ap (after h.count) t.left ∙ sym (after_plus t.count h.count c);
    early = λ y.
        let w = h.early y in
        record {
          before = t.count + w.before;
          last = ap (λ q. t.count + q) w.last ∙ more_after t.count w.before;
          refused = w.refused ∙ ap (λ q. refusal (head q)) (ap (after w.before) t.left ∙ sym (after_plus t.count w.before c));
          rest = w.rest;
          shape = record { left = taken t.count c; right = taken w.before e ++ w.rest; is = ap (λ us. us ++ w.rest) (taken_plus t.count w.before c ∙ ap (λ q. taken t.count c ++ taken w.before q) (sym t.left)) ∙ append_assoc (taken t.count c) (taken w.before e) w.rest; one = t.shape; two = w.shape };
        };
    again = λ d n m.
        let v = after t.count d in
        let n₁ : Alike h.count e v = subst (λ q. Alike h.count q v) (sym t.left) (alike_back t.count h.count c d n) in
        let m₁ : Ends f u (after h.count v) = subst (λ q. Ends f u q) (after_plus t.count h.count d) m in
        let m₂ : Ends f (after h.count e) (after h.count v) = subst (λ q. Ends f q (after h.count v)) h.left m₁ in
        ap (λ o. then o (λ x u z. g x z u)) (t.again d (alike_front t.count h.count c d n) (seen_fail a l b joins f h.count e v h.ready n₁ m₂)) ∙ h.again v n₁ m₁ ∙ ap (λ q. fail f q) (sym (after_plus t.count h.count d));
  })

  pub told_then : (c : Cursor) {o : Outcome Z X} → Told k a G r c o → Full H → ((x : X) (z : Z) → Tells l b H (g x z)) → Told k b (Then G H) (λ d. then (r d) (λ x u z. g x z u)) c (then o (λ x u z. g x z u))
  told_then c (told_ok {x} {e} {z} t) full i = after_ok c t ((i x z).of e)
  told_then c (told_fail {f} {e} t) full i = told_fail (record {
    count = t.count;
    ready = t.ready;
    left = t.left;
    early = λ y. let w = t.early y in record { before = w.before; last = w.last; refused = w.refused; rest = w.rest ++ full.0; shape = record { left = taken w.before c ++ w.rest; right = full.0; is = sym (append_assoc (taken w.before c) w.rest full.0); one = w.shape; two = full.1 } };
    again = λ d n m. ap (λ o. then o (λ x u z. g x z u)) (t.again d n m);
  })

  pub tell_then : Tells k a G r → Full H → ((x : X) (z : Z) → Tells l b H (g x z)) → Tells k b (Then G H) (λ c. then (r c) (λ x u z. g x z u))
  tell_then h full i = record { of = λ c. told_then c (h.of c) full i }
