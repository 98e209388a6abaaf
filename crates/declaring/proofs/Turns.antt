-- One turn more of what is read any number of times, and its end.
use Rattle.std.proofs.Common.{◌≡◌, ℕ, zero, suc, ◌+◌, ◌<◌, true, false, List, Some, None, refl, ap, ◌∙◌, sym, arith}
use Rattle.std.proofs.lemmas.Bool.{cond-true, cond-false}
use Rattle.faults.specs.declared.Fault.{Fault}
use Rattle.relations.specs.declared.relation.Mutability.{Mutability}
use Rattle.relations.specs.declared.relation.Arity.{Arity}
use Rattle.tokens.specs.declared.mark.Mark.TheVariants as mark
use Rattle.tokens.specs.Items.{is_mark}
use Rattle.tokens.specs.Cursors.{Cursor, head, step}
use Rattle.tokens.specs.Outcomes.{ok, fail, then, perhaps}
use Rattle.declaring.specs.Sets.{Listed, tuple, tuples}
use Rattle.declaring.specs.Known.{Known}
use Rattle.declaring.specs.Declaring.{atom, further_atoms, mutability_of, relation, relations}

pub atoms_none : (n : ℕ) (c : Cursor) (k : Known) → n ≡ 0 → ok tt c k ≡ further_atoms n c k
unfolding further_atoms
atoms_none zero c k e = refl
atoms_none (suc n) c k e = absurd (omega arith)

pub atoms_end : (n : ℕ) (c : Cursor) (k : Known) → is_mark mark.Semicolon (head c) ≡ true → ok tt c k ≡ further_atoms n c k
unfolding further_atoms
atoms_end zero c k e = refl
atoms_end (suc n) c k e = sym (cond-true _ _ _ e)

pub atoms_more : (n m : ℕ) (x : Unit {0}) (c d : Cursor) (k l : Known) → m + 1 ≡ n → is_mark mark.Semicolon (head c) ≡ false → ok x d l ≡ atom c k → further_atoms m d l ≡ further_atoms n c k
unfolding further_atoms
atoms_more zero m x c d k l h e r = absurd (omega arith)
atoms_more (suc n) m x c d k l h e r =
    let q : m ≡ n = omega arith in
    ap (λ i. further_atoms i d l) q ∙ ap (λ o. then o (λ _ c₁ k₁. further_atoms n c₁ k₁)) r ∙ sym (cond-false _ _ _ e)

pub atoms_fail : (n : ℕ) (f : Fault) (c d : Cursor) (k : Known) → 0 < n → is_mark mark.Semicolon (head c) ≡ false → fail f d ≡ atom c k → fail f d ≡ further_atoms n c k
unfolding further_atoms
atoms_fail zero f c d k h e r = absurd (omega arith)
atoms_fail (suc n) f c d k h e r = ap (λ o. then o (λ _ c₁ k₁. further_atoms n c₁ k₁)) r ∙ sym (cond-false _ _ _ e)

pub tuples_none : (n : ℕ) (ns : List (List ℕ)) (a : Arity) (c : Cursor) (s : Listed) → n ≡ 0 → ok tt c s ≡ tuples n ns a c s
unfolding tuples
tuples_none zero ns a c s e = refl
tuples_none (suc n) ns a c s e = absurd (omega arith)

pub tuples_end : (n : ℕ) (ns : List (List ℕ)) (a : Arity) (c : Cursor) (s : Listed) → is_mark mark.OpenParen (head c) ≡ false → ok tt c s ≡ tuples n ns a c s
unfolding tuples
tuples_end zero ns a c s e = refl
tuples_end (suc n) ns a c s e = sym (cond-false _ _ _ e)

pub tuples_more : (n m : ℕ) (x : Unit {0}) (ns : List (List ℕ)) (a : Arity) (c d : Cursor) (s t : Listed) → m + 1 ≡ n → is_mark mark.OpenParen (head c) ≡ true → ok x d t ≡ tuple ns a c s → tuples m ns a d t ≡ tuples n ns a c s
unfolding tuples
tuples_more zero m x ns a c d s t h e r = absurd (omega arith)
tuples_more (suc n) m x ns a c d s t h e r =
    let q : m ≡ n = omega arith in
    ap (λ i. tuples i ns a d t) q ∙ ap (λ o. then o (λ _ c₁ s₁. tuples n ns a c₁ s₁)) r ∙ sym (cond-true _ _ _ e)

pub tuples_fail : (n : ℕ) (f : Fault) (ns : List (List ℕ)) (a : Arity) (c d : Cursor) (s : Listed) → 0 < n → is_mark mark.OpenParen (head c) ≡ true → fail f d ≡ tuple ns a c s → fail f d ≡ tuples n ns a c s
unfolding tuples
tuples_fail zero f ns a c d s h e r = absurd (omega arith)
tuples_fail (suc n) f ns a c d s h e r = ap (λ o. then o (λ _ c₁ s₁. tuples n ns a c₁ s₁)) r ∙ sym (cond-true _ _ _ e)

pub relations_none : (n : ℕ) (c : Cursor) (k : Known) → n ≡ 0 → ok tt c k ≡ relations n c k
unfolding relations
relations_none zero c k e = refl
relations_none (suc n) c k e = absurd (omega arith)

pub relations_end : (n : ℕ) (c : Cursor) (k : Known) → None ≡ mutability_of (head c) → ok tt c k ≡ relations n c k
unfolding relations
relations_end zero c k e = refl
relations_end (suc n) c k e = ap (λ o. perhaps o (ok tt c k) (λ m. then (relation m (step c) k) (λ _ c₁ k₁. relations n c₁ k₁))) e

pub relations_more : (n i : ℕ) (x : Unit {0}) (m : Mutability) (c d : Cursor) (k l : Known) → i + 1 ≡ n → Some m ≡ mutability_of (head c) → ok x d l ≡ relation m (step c) k → relations i d l ≡ relations n c k
unfolding relations
relations_more zero i x m c d k l h e r = absurd (omega arith)
relations_more (suc n) i x m c d k l h e r =
    let q : i ≡ n = omega arith in
    ap (λ j. relations j d l) q
    ∙ ap (λ o. then o (λ _ c₁ k₁. relations n c₁ k₁)) r
    ∙ ap (λ o. perhaps o (ok tt c k) (λ m. then (relation m (step c) k) (λ _ c₁ k₁. relations n c₁ k₁))) e

pub relations_fail : (n : ℕ) (f : Fault) (m : Mutability) (c d : Cursor) (k : Known) → 0 < n → Some m ≡ mutability_of (head c) → fail f d ≡ relation m (step c) k → fail f d ≡ relations n c k
unfolding relations
relations_fail zero f m c d k h e r = absurd (omega arith)
relations_fail (suc n) f m c d k h e r =
    ap (λ o. then o (λ _ c₁ k₁. relations n c₁ k₁)) r
    ∙ ap (λ o. perhaps o (ok tt c k) (λ m. then (relation m (step c) k) (λ _ c₁ k₁. relations n c₁ k₁))) e
