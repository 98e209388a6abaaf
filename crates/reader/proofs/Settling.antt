-- A refusal of a text is settled by one of its tokens.
use Rattle.std.specs.Prelude.{nat_lt}
use Rattle.std.proofs.Common.{◌≡◌, ℕ, ◌≤◌, Bool, true, false, List, length, Ok, Err, Result, refl, sym, ap, ◌∙◌, subst, arith, ltb-true, [], ◌++◌, append_assoc, zero, suc, ◌+◌, ◌∷◌, None, cond}
use Rattle.std.proofs.lemmas.Bool.{cond-false}
use Rattle.faults.specs.declared.Fault.{Fault}
use Rattle.faults.specs.declared.Fault.TheVariants.{TextTooLong}
use Rattle.problem.specs.declared.problem.Problem.{Problem}
use Rattle.tokens.specs.declared.mark.Mark.TheVariants as mark
use Rattle.tokens.specs.Cursors.{Cursor, cursor_of, head, step}
use Rattle.tokens.specs.Outcomes.{Outcome, ok, fail, then, take}
use Rattle.formulas.specs.Bodies.{Body, Open}
use Rattle.formulas.specs.Outcomes as formulas
use Rattle.formulas.specs.Formulas.{formula, levels}
use Rattle.declaring.specs.Sets.{most_text}
use Rattle.declaring.specs.Known.{Known, Framed}
use Rattle.declaring.specs.Declaring.{mutability_of, horizon}
use Rattle.reader.specs.Reading.{Contents, contents, contents_of, contents_told, nothing_known, unread, no_bracket, formula_only, formula_text, problem_text, value_of, reading}
use Rattle.reader.specs.Settled.{after, taken, Alike, Ends, is_early, Refuses, SettledByToken, FollowsGrammar, Settled}
use Rattle.reader.proofs.Telling.{Shape, Full, Ahead, nothing as looks_at_nothing, Kind, starts, soft, Told, told_ok, told_fail, Tells, full_mark, full_then, tell_ok, tell_take, tell_map, tell_then, put_off_late}
use Rattle.reader.proofs.Declaring.{ends, full_horizon, tell_declarations, tell_horizon}
use Rattle.reader.proofs.Formulas.{full_form, tell_formula}
use Rattle.reader.specs.Grammar.{Is, One, Then, Many, Form, Atoms, Relation, Horizon, Text}
use Rattle.tokens.specs.Items.{Item}
use Rattle.reader.proofs.Items.{other_mark, horizon_no_mutability}
use Rattle.reader.proofs.Passing.{Stands, past, Passed, passed_ok, passed_late, Any, Passes, Always, and_nothing, pass_map, pass_ok, head_is, passes_take, passes_then, stands_front}
use Rattle.reader.proofs.PassDeclarations.{pass_declarations, pass_horizon}
use Rattle.reader.proofs.PassExpressions.{Held}
use Rattle.reader.proofs.PassFormulas.{Quiet, pass_formula}

tell_only : {k : Kind} {a : Ahead} {G : Shape} {r : Cursor → formulas.Outcome ℕ} → Tells k a G r → Tells k a G (λ c. formula_only (r c))
tell_only {k} {a} {G} {r} h = record { of = λ c. go c (r c) (h.of c) }
  where
    go : (c : Cursor) (o : formulas.Outcome ℕ) → Told k a G r c o → Told k a G (λ d. formula_only (r d)) c (formula_only o)
    go c o (told_ok t) = told_ok (record { count = t.count; begins = t.begins; left = t.left; shape = t.shape; again = λ d l n. ap formula_only (t.again d l n) })
    go c o (told_fail t) = told_fail (record { count = t.count; ready = t.ready; left = t.left; early = t.early; again = λ d l n. ap formula_only (t.again d l n) })

abbrev Rest : Shape
Rest = Then (One (Is mark.Formula)) (Then Form (One (Is mark.End)))

full_whole : Full (Then Form (One (Is mark.End)))
full_whole = full_then full_form (full_mark mark.End)

full_rest : Full Rest
full_rest = full_then (full_mark mark.Formula) full_whole

tell_formula_text : (b : Body) → Tells starts looks_at_nothing Rest (formula_text b)
unfolding formula_text
tell_formula_text b =
    tell_take mark.Formula full_whole (λ _ c₁. then (formula_only (formula levels c₁ b no_bracket)) (λ _ c₂ b₂. take mark.End c₂ (λ _ c₃. ok tt c₃ (contents_of b₂)))) (λ _.
    tell_then (λ _ b₂ c₂. take mark.End c₂ (λ _ c₃. ok tt c₃ (contents_of b₂))) tt tt (tell_only (tell_formula levels b no_bracket)) (full_mark mark.End) (λ _ b₂.
    tell_map ends (tell_take mark.End ([], refl) (λ _ c₃. ok tt c₃ (contents_of b₂)) (λ _. tell_ok {k = soft} tt (contents_of b₂) tt refl))))

regroup : (us : List Item) → Then (Then Atoms (Many Relation)) (Then Horizon Rest) us → Text us
regroup us h =
    let a = h.one in
    record { left = a.left; right = a.right ++ h.right; is = h.is ∙ ap (λ v. v ++ h.right) a.is ∙ append_assoc a.left a.right h.right; one = a.one; two = record { left = a.right; right = h.right; is = refl; one = a.two; two = h.two } }

tell_problem : (k : Known) → Tells starts looks_at_nothing Text (λ c. problem_text c k)
unfolding problem_text
tell_problem k =
    tell_map regroup (tell_then (λ _ k₁ c₁. then (horizon c₁ k₁) (λ _ c₂ f. formula_text (unread f) c₂)) tt tt (tell_declarations k) (full_then full_horizon full_rest) (λ _ k₁.
    tell_then (λ _ f c₂. formula_text (unread f) c₂) tt tt (tell_horizon k₁) full_rest (λ _ f. tell_formula_text (unread f))))

-- a text of the grammar is refused for no token

pass_only : {Q : ℕ → Body × Open → Type 0} {e : Cursor} {o : formulas.Outcome ℕ} → Passed Q e o → Passed {Z = Body} {X = ℕ} Any e (formula_only o)
pass_only (passed_ok q) = passed_ok tt
pass_only (passed_late l) = passed_late l

unread_held : (f : Framed) → Held (unread f) no_bracket
unfolding unread
unread_held f = record { few = omega arith; limit = refl; room = omega arith }

unread_deep : (f : Framed) → 290 ≤ levels + (unread f).parts + length no_bracket.places
unfolding unread
unread_deep f = omega arith

pass_formula_text : (f : Framed) → Passes Rest Always Any (formula_text (unread f))
unfolding formula_text
pass_formula_text f =
    passes_take mark.Formula (λ _ c₁. then (formula_only (formula levels c₁ (unread f) no_bracket)) (λ _ c₂ b₂. take mark.End c₂ (λ _ c₃. ok tt c₃ (contents_of b₂)))) (λ _.
    passes_then {S = Quiet} (λ _ b₂ c₂. take mark.End c₂ (λ _ c₃. ok tt c₃ (contents_of b₂))) (λ vs v k t _. (other_mark mark.End mark.Prime (head v) (head_is vs v (and_nothing vs k) t) refl, other_mark mark.End mark.Colon (head v) (head_is vs v (and_nothing vs k) t) refl)) (record { of = λ us c g l s r. pass_only ((pass_formula levels (unread f) no_bracket (unread_held f) (unread_deep f)).of us c g l s r) }) (λ _ b₂ _.
    pass_map and_nothing (passes_take mark.End (λ _ c₃. ok tt c₃ (contents_of b₂)) (λ _. pass_ok tt (contents_of b₂) tt))))

ungroup : (us : List Item) → Text us → Then (Then Atoms (Many Relation)) (Then Horizon Rest) us
ungroup us h =
    let a = h.two in
    record { left = h.left ++ a.left; right = a.right; is = h.is ∙ ap (λ v. h.left ++ v) a.is ∙ sym (append_assoc h.left a.left a.right); one = record { left = h.left; right = a.left; is = refl; one = h.one; two = a.one }; two = a.two }

at_horizon : (vs : List Item) (u : Cursor) → Then Horizon Rest vs → Stands vs u → mutability_of (head u) ≡ None
at_horizon vs u h s = horizon_no_mutability (head u) (head_is h.left u h.one (stands_front h.left h.right u (subst (λ vs. Stands vs u) h.is s)))

pass_problem : (k : Known) → Passes Text Always Any (λ c. problem_text c k)
unfolding problem_text
pass_problem k =
    pass_map ungroup (passes_then (λ _ k₁ c₁. then (horizon c₁ k₁) (λ _ c₂ f. formula_text (unread f) c₂)) (λ vs u h s _. at_horizon vs u h s) (pass_declarations k) (λ _ k₁ _.
    passes_then (λ _ f c₂. formula_text (unread f) c₂) (λ _ _ _ _ _. tt) (pass_horizon k₁) (λ _ f _. pass_formula_text f)))

-- a text with the first tokens of another
begun_with : List Item → ℕ → Cursor
begun_with us n = record { items = us; len = n }

stands_first : (us : List Item) (n : ℕ) → Stands us (begun_with us n)
unfolding head step begun_with
stands_first [] n = tt
stands_first (i ∷ us) n = (refl, stands_first us n)

alike_taken : (k : ℕ) (us : List Item) (c d : Cursor) → Stands (taken k c ++ us) d → Alike k c d
alike_taken zero us c d s = tt
alike_taken (suc k) us c d s = (sym s.0, alike_taken k us (step c) (step d) s.1)

not_early : {Z X : Type 0} {Q : X → Z → Type 0} {e u : Cursor} {f : Fault} → Passed Q e (fail f u) → is_early f ≡ true → ⊥
not_early (passed_late l) y = let z : true ≡ false = sym y ∙ l in absurd cc

-- the reading of a text that is not too long
pub short : (text : List ℕ) → length text ≤ most_text → reading text ≡ value_of (problem_text (cursor_of text) nothing_known)
unfolding reading
short text h = cond-false (nat_lt most_text (length text)) (Err TextTooLong) (value_of (problem_text (cursor_of text) nothing_known)) (go (nat_lt most_text (length text)) refl)
  where
    go : (b : Bool) → nat_lt most_text (length text) ≡ b → b ≡ false
    go true e = absurd (omega (arith, h, ltb-true _ _ e))
    go false e = refl

-- an accepted text follows the grammar
follows : (text : List ℕ) (x : Contents) → Ok x ≡ reading text → FollowsGrammar text
unfolding reading
follows text x h = go (nat_lt most_text (length text)) h
  where
    seen : (o : Outcome Contents (Unit {0})) → Told starts looks_at_nothing Text (λ c. problem_text c nothing_known) (cursor_of text) o → Ok x ≡ value_of o → FollowsGrammar text
    seen o (told_ok t) e = record { tokens = t.count; shape = t.shape }
    seen o (told_fail t) e = absurd cc

    go : (b : Bool) → Ok x ≡ cond b (Err TextTooLong) (value_of (problem_text (cursor_of text) nothing_known)) → FollowsGrammar text
    go true e = absurd cc
    go false e = seen (problem_text (cursor_of text) nothing_known) ((tell_problem nothing_known).of (cursor_of text)) e

pub settled : (text : List ℕ) (r : Result Problem Fault) → contents_told r ≡ reading text → Settled text r
settled text (Ok p) h = follows text (contents p) h
settled text (Err f) h = λ l. go (problem_text (cursor_of text) nothing_known) refl ((tell_problem nothing_known).of (cursor_of text)) (sym (h ∙ short text l))
  where
    go : (o : Outcome Contents (Unit {0})) → problem_text (cursor_of text) nothing_known ≡ o → Told starts looks_at_nothing Text (λ c. problem_text c nothing_known) (cursor_of text) o → value_of o ≡ Err f → SettledByToken text f
    go o i (told_ok t) e = absurd cc
    go o i (told_fail {f = g} {e = u} t) e =
        let same : g ≡ f = cc in
        record {
          tokens = t.count;
          settles = i ∙ ap (λ q. fail g q) t.left ∙ ap (λ q. fail q (after t.count (cursor_of text))) same;
          right_so_far = λ y. subst (λ q. Refuses Text (cursor_of text) q t.count) same (t.early (ap is_early same ∙ y));
          and_no_further = λ y more len g₁.
              let us = taken t.count (cursor_of text) ++ more in
              let d = begun_with us 0 in
              let first = stands_first us 0 in
              let early : is_early g ≡ true = ap is_early same ∙ y in
              let refused : problem_text d nothing_known ≡ fail g (after t.count d) = t.again d (alike_taken t.count more (cursor_of text) d first) (λ z. absurd (let w : true ≡ false = sym early ∙ put_off_late g z in cc)) in
              not_early (subst (λ o. Passed Any (past us d) o) refused ((pass_problem nothing_known).of us d g₁ len first tt)) early;
          whatever_follows = λ other k l n. short other k ∙ ap value_of (t.again (cursor_of other) l (subst (λ q. Ends q u (after t.count (cursor_of other))) (sym same) (subst (λ q. Ends f q (after t.count (cursor_of other))) (sym t.left) n))) ∙ ap Err same;
        }
