-- Each production of the declarations passes what is of its shape.
use Rattle.std.specs.Prelude.{length}
use Rattle.std.specs.Option.{ok_or}
use Rattle.std.proofs.Common.{◌≡◌, ℕ, zero, suc, ◌≤◌, true, false, List, Some, None, refl, sym, subst, arith}
use Rattle.faults.specs.declared.Fault.TheVariants.{ArityMismatch}
use Rattle.names.specs.Lookups.{index_of}
use Rattle.relations.specs.declared.relation.Mutability.{Mutability}
use Rattle.relations.specs.declared.relation.Arity.{Arity}
use Rattle.relations.specs.Relations.{declared, arity_of}
use Rattle.relations.specs.Free.{fitness}
use Rattle.tokens.specs.declared.mark.Mark.TheVariants as mark
use Rattle.tokens.specs.Items.{Item, place_of, name_of, number_of, is_mark}
use Rattle.tokens.specs.Cursors.{Cursor, head, step}
use Rattle.tokens.specs.Outcomes.{ok, then, take, taking, check, Change, alter}
use Rattle.declaring.specs.Sets.{Listed, nothing, noted, outside, numbered, atom_named, atom_number, second_number, tuple, tuples, most_text, tuple_set}
use Rattle.declaring.specs.Known.{Known, atomed, nameable, related, arity_given, within, horizon_given}
use Rattle.declaring.specs.Declaring.{atom, further_atoms, atoms, mutability_of, arity, bounds, relation, relations, declarations, horizon}
use Rattle.reader.specs.Grammar.{IsName, IsNumber, One, Then, Many, no_more, one_more, Perhaps, not_there, there, Tuple, Set, Atoms, Relation, Horizon}
use Rattle.reader.proofs.Telling.{LateChange, alters, keeps}
use Rattle.reader.proofs.Items.{other_mark, mark_no_name, name_no_mark}
use Rattle.reader.proofs.Declaring.{late_named, late_tuple, late_atomed, late_arity, late_within, late_nameable, late_horizon, Bounds, Named}
use Rattle.reader.proofs.Passing.{Stands, past, Passed, passed_ok, Any, Sized, sized_ok, sized_late, pass_cond, pass_perhaps, pass_then, passed_at, length_both, one_long, then_long, Passes, Always, and_nothing, pass_map, pass_ok, passes_check, passes_alter, passed_next, head_is, passes_take, passes_taking, passes_then, stands_front, stands_back, past_both}

-- what a change makes

sized_atomed : (x : List ℕ) (p : ℕ) (k : Known) → Sized Any (atomed x p k)
sized_atomed x p k = go (late_atomed x p k)
  where
    go : {r : Change Known (Unit {0})} → LateChange r → Sized Any r
    go alters = sized_ok tt
    go (keeps e) = sized_late e

-- names of atoms

pass_atom_number : (ns : List (List ℕ)) → Passes (One IsName) Always Any (atom_number ns)
unfolding atom_named
pass_atom_number ns =
    pass_map and_nothing (passes_taking name_of (λ x i c₁. check (atom_named x ns (place_of i)) c₁ (λ n. ok n c₁ tt)) (λ x i.
    passes_check (atom_named x ns (place_of i)) (late_named (index_of x ns) (place_of i)) (λ n c₁. ok n c₁ tt) (λ n. pass_ok n tt tt)))

abbrev NoName : Cursor → Type 0
NoName u = name_of (head u) ≡ None

passed_second : (ns : List (List ℕ)) (us : List Item) (c : Cursor) → Perhaps (One IsName) us → length us ≤ most_text → Stands us c → NoName (past us c) → Passed Any (past us c) (second_number ns c)
passed_second ns us c not_there l s e = pass_perhaps (name_of (head c)) None (ok None c tt) (λ _. then (atom_number ns c) (λ i c₁ _. ok (Some i) c₁ tt)) e (passed_ok tt)
passed_second ns us c (there h) l s e =
    let n = head_is us c (and_nothing us h) s in
    pass_perhaps (name_of (head c)) (Some n.0) (ok None c tt) (λ _. then (atom_number ns c) (λ i c₁ _. ok (Some i) c₁ tt)) n.1
    (pass_then (λ i _ c₁. ok (Some i) c₁ tt) ((pass_atom_number ns).of us c h l s tt) (λ i _ _. passed_ok tt))

pass_second_number : (ns : List (List ℕ)) → Passes (Perhaps (One IsName)) NoName Any (second_number ns)
pass_second_number ns = record { of = passed_second ns }

-- sets of tuples

pass_tuple : (ns : List (List ℕ)) (a : Arity) (s : Listed) → Passes Tuple Always Any (λ c. tuple ns a c s)
pass_tuple ns a s =
    passes_take mark.OpenParen (λ p c₁.
    then (atom_number ns c₁) (λ x c₂ _.
    then (second_number ns c₂) (λ y c₃ _.
    take mark.CloseParen c₃ (λ _ c₄.
    check (ok_or (numbered a (length ns) x y) (ArityMismatch p)) c₄ (λ t. ok tt c₄ (noted t p s)))))) (λ p.
    passes_then (λ x _ c₂.
    then (second_number ns c₂) (λ y c₃ _.
    take mark.CloseParen c₃ (λ _ c₄.
    check (ok_or (numbered a (length ns) x y) (ArityMismatch p)) c₄ (λ t. ok tt c₄ (noted t p s))))) (λ _ _ _ _ _. tt) (pass_atom_number ns) (λ x _ _.
    passes_then (λ y _ c₃.
    take mark.CloseParen c₃ (λ _ c₄.
    check (ok_or (numbered a (length ns) x y) (ArityMismatch p)) c₄ (λ t. ok tt c₄ (noted t p s)))) (λ vs u h t _. mark_no_name (head u) mark.CloseParen (head_is vs u (and_nothing vs h) t)) (pass_second_number ns) (λ y _ _.
    pass_map and_nothing (passes_take mark.CloseParen (λ _ c₄. check (ok_or (numbered a (length ns) x y) (ArityMismatch p)) c₄ (λ t. ok tt c₄ (noted t p s))) (λ _.
    passes_check (ok_or (numbered a (length ns) x y) (ArityMismatch p)) (late_tuple (numbered a (length ns) x y) p) (λ t c₄. ok tt c₄ (noted t p s)) (λ t. pass_ok tt (noted t p s) tt))))))

abbrev NoTuple : Cursor → Type 0
NoTuple u = is_mark mark.OpenParen (head u) ≡ false

-- any number of tuples, no more than there may be tokens
passed_tuples : (n : ℕ) (ns : List (List ℕ)) (a : Arity) (l : Listed) (us : List Item) (c : Cursor) → Many Tuple us → length us ≤ n → length us ≤ most_text → Stands us c → NoTuple (past us c) → Passed Any (past us c) (tuples n ns a c l)
unfolding tuples
passed_tuples zero ns a l us c no_more k t s e = passed_ok tt
passed_tuples zero ns a l us c (one_more {us = vs} {vs = ws} h m) k t s e = absurd (omega (arith, k, length_both vs ws, then_long vs one_long h))
passed_tuples (suc n) ns a l us c no_more k t s e = pass_cond (is_mark mark.OpenParen (head c)) false (then (tuple ns a c l) (λ _ c₁ s₁. tuples n ns a c₁ s₁)) (ok tt c l) e (passed_ok tt)
passed_tuples (suc n) ns a l us c (one_more {us = vs} {vs = ws} h m) k t s e =
    let p = past_both vs ws c in
    let q = length_both vs ws in
    let s₁ = stands_front vs ws c s in
    pass_cond (is_mark mark.OpenParen (head c)) true (then (tuple ns a c l) (λ _ c₁ s₁. tuples n ns a c₁ s₁)) (ok tt c l) (head_is vs c h s₁)
    (passed_at (sym p) (pass_then (λ _ s₁ c₁. tuples n ns a c₁ s₁) ((pass_tuple ns a l).of vs c h (omega (arith, t, q)) s₁ tt) (λ _ s₂ _.
    passed_tuples n ns a s₂ ws (past vs c) m (omega (arith, k, q, then_long vs one_long h)) (omega (arith, t, q)) (stands_back vs ws c s) (subst NoTuple p e))))

pass_tuples : (ns : List (List ℕ)) (a : Arity) (l : Listed) → Passes (Many Tuple) NoTuple Any (λ c. tuples most_text ns a c l)
pass_tuples ns a l = record { of = λ us c h t s e. passed_tuples most_text ns a l us c h t t s e }

pass_set : (ns : List (List ℕ)) (a : Arity) → Passes Set Always Any (tuple_set ns a)
pass_set ns a =
    passes_take mark.OpenBrace (λ _ c₁. then (tuples most_text ns a c₁ nothing) (λ _ c₂ s. take mark.CloseBrace c₂ (λ _ c₃. ok tt c₃ s))) (λ _.
    passes_then (λ _ s c₂. take mark.CloseBrace c₂ (λ _ c₃. ok tt c₃ s)) (λ vs u h t _. other_mark mark.CloseBrace mark.OpenParen (head u) (head_is vs u (and_nothing vs h) t) refl) (pass_tuples ns a nothing) (λ _ s _.
    pass_map and_nothing (passes_take mark.CloseBrace (λ _ c₃. ok tt c₃ s) (λ _. pass_ok tt s tt))))

-- atoms

pass_atom : (k : Known) → Passes (One IsName) Always Any (λ c. atom c k)
pass_atom k =
    pass_map and_nothing (passes_taking name_of (λ x i c₁. alter (atomed x (place_of i) k) c₁ (λ _ k₁. ok tt c₁ k₁)) (λ x i.
    passes_alter (atomed x (place_of i) k) (sized_atomed x (place_of i) k) (λ _ k₁ c₁. ok tt c₁ k₁) (λ _ k₁ _. pass_ok tt k₁ tt)))

abbrev AtEnd : Cursor → Type 0
AtEnd u = is_mark mark.Semicolon (head u) ≡ true

passed_further : (n : ℕ) (k : Known) (us : List Item) (c : Cursor) → Many (One IsName) us → length us ≤ n → length us ≤ most_text → Stands us c → AtEnd (past us c) → Passed Any (past us c) (further_atoms n c k)
unfolding further_atoms
passed_further zero k us c no_more l t s e = passed_ok tt
passed_further zero k us c (one_more {us = vs} {vs = ws} h m) l t s e = absurd (omega (arith, l, length_both vs ws, one_long vs h))
passed_further (suc n) k us c no_more l t s e = pass_cond (is_mark mark.Semicolon (head c)) true (ok tt c k) (then (atom c k) (λ _ c₁ k₁. further_atoms n c₁ k₁)) e (passed_ok tt)
passed_further (suc n) k us c (one_more {us = vs} {vs = ws} h m) l t s e =
    let p = past_both vs ws c in
    let q = length_both vs ws in
    let s₁ = stands_front vs ws c s in
    pass_cond (is_mark mark.Semicolon (head c)) false (ok tt c k) (then (atom c k) (λ _ c₁ k₁. further_atoms n c₁ k₁)) (name_no_mark (head c) mark.Semicolon (head_is vs c (and_nothing vs h) s₁))
    (passed_at (sym p) (pass_then (λ _ k₁ c₁. further_atoms n c₁ k₁) ((pass_atom k).of vs c h (omega (arith, t, q)) s₁ tt) (λ _ k₁ _.
    passed_further n k₁ ws (past vs c) m (omega (arith, l, q, one_long vs h)) (omega (arith, t, q)) (stands_back vs ws c s) (subst AtEnd p e))))

pass_further : (k : Known) → Passes (Many (One IsName)) AtEnd Any (λ c. further_atoms most_text c k)
pass_further k = record { of = λ us c h t s e. passed_further most_text k us c h t t s e }

pass_atoms : (k : Known) → Passes Atoms Always Any (λ c. atoms c k)
pass_atoms k =
    passes_take mark.Atoms (λ _ c₁. then (atom c₁ k) (λ _ c₂ k₂. then (further_atoms most_text c₂ k₂) (λ _ c₃ k₃. take mark.Semicolon c₃ (λ _ c₄. ok tt c₄ k₃)))) (λ _.
    passes_then (λ _ k₂ c₂. then (further_atoms most_text c₂ k₂) (λ _ c₃ k₃. take mark.Semicolon c₃ (λ _ c₄. ok tt c₄ k₃))) (λ _ _ _ _ _. tt) (pass_atom k) (λ _ k₂ _.
    passes_then (λ _ k₃ c₃. take mark.Semicolon c₃ (λ _ c₄. ok tt c₄ k₃)) (λ vs u h t _. head_is vs u (and_nothing vs h) t) (pass_further k₂) (λ _ k₃ _.
    pass_map and_nothing (passes_take mark.Semicolon (λ _ c₄. ok tt c₄ k₃) (λ _. pass_ok tt k₃ tt)))))

-- relations

pass_arity : Passes (One IsNumber) Always Any arity
unfolding arity_given
pass_arity =
    pass_map and_nothing (passes_taking number_of (λ n i c₁. check (arity_given n (place_of i)) c₁ (λ a. ok a c₁ tt)) (λ n i.
    passes_check (arity_given n (place_of i)) (late_arity (arity_of n) (place_of i)) (λ a c₁. ok a c₁ tt) (λ a. pass_ok a tt tt)))

pass_bounds : (m : Mutability) (x : List ℕ) (a : Arity) (k : Known) → Passes Bounds Always Any (λ c. bounds m x a c k)
pass_bounds m x a k =
    passes_then (λ _ l c₁. then (tuple_set k.atoms a c₁) (λ _ c₂ u. check (within (outside l u.held)) c₂ (λ _. take mark.Semicolon c₂ (λ _ c₃. ok tt c₃ (related (declared x m a l.held u.held) k))))) (λ _ _ _ _ _. tt) (pass_set k.atoms a) (λ _ l _.
    passes_then (λ _ u c₂. check (within (outside l u.held)) c₂ (λ _. take mark.Semicolon c₂ (λ _ c₃. ok tt c₃ (related (declared x m a l.held u.held) k)))) (λ _ _ _ _ _. tt) (pass_set k.atoms a) (λ _ u _.
    passes_check (within (outside l u.held)) (late_within (outside l u.held)) (λ _ c₂. take mark.Semicolon c₂ (λ _ c₃. ok tt c₃ (related (declared x m a l.held u.held) k))) (λ _.
    pass_map and_nothing (passes_take mark.Semicolon (λ _ c₃. ok tt c₃ (related (declared x m a l.held u.held) k)) (λ _. pass_ok tt (related (declared x m a l.held u.held) k) tt)))))

pass_relation : (m : Mutability) (k : Known) → Passes Named Always Any (λ c. relation m c k)
pass_relation m k =
    passes_taking name_of (λ x i c₁. check (nameable x (place_of i) k) c₁ (λ _. take mark.Colon c₁ (λ _ c₂. then (arity c₂) (λ a c₃ _. bounds m x a c₃ k)))) (λ x i.
    passes_check (nameable x (place_of i) k) (late_nameable x (place_of i) k) (λ _ c₁. take mark.Colon c₁ (λ _ c₂. then (arity c₂) (λ a c₃ _. bounds m x a c₃ k))) (λ _.
    passes_take mark.Colon (λ _ c₂. then (arity c₂) (λ a c₃ _. bounds m x a c₃ k)) (λ _.
    passes_then (λ a _ c₃. bounds m x a c₃ k) (λ _ _ _ _ _. tt) pass_arity (λ a _ _. pass_bounds m x a k))))

abbrev pub NoRelation : Cursor → Type 0
NoRelation u = mutability_of (head u) ≡ None

passed_relations : (n : ℕ) (k : Known) (us : List Item) (c : Cursor) → Many Relation us → length us ≤ n → length us ≤ most_text → Stands us c → NoRelation (past us c) → Passed Any (past us c) (relations n c k)
unfolding relations
passed_relations zero k us c no_more l t s e = passed_ok tt
passed_relations zero k us c (one_more {us = vs} {vs = ws} h m) l t s e = absurd (omega (arith, l, length_both vs ws, then_long vs one_long h))
passed_relations (suc n) k us c no_more l t s e = pass_perhaps (mutability_of (head c)) None (ok tt c k) (λ m. then (relation m (step c) k) (λ _ c₁ k₁. relations n c₁ k₁)) e (passed_ok tt)
passed_relations (suc n) k us c (one_more {us = vs} {vs = ws} h m) l t s e =
    let p = past_both vs ws c in
    let q = length_both vs ws in
    let s₁ = stands_front vs ws c s in
    let y = head_is vs c h s₁ in
    pass_perhaps (mutability_of (head c)) (Some y.0) (ok tt c k) (λ m. then (relation m (step c) k) (λ _ c₁ k₁. relations n c₁ k₁)) y.1
    (passed_at (sym p) (pass_then (λ _ k₁ c₁. relations n c₁ k₁) (passed_next vs c h (omega (arith, t, q)) s₁ tt (pass_relation y.0 k)) (λ _ k₁ _.
    passed_relations n k₁ ws (past vs c) m (omega (arith, l, q, then_long vs one_long h)) (omega (arith, t, q)) (stands_back vs ws c s) (subst NoRelation p e))))

pass_relations : (k : Known) → Passes (Many Relation) NoRelation Any (λ c. relations most_text c k)
pass_relations k = record { of = λ us c h t s e. passed_relations most_text k us c h t t s e }

pub pass_declarations : (k : Known) → Passes (Then Atoms (Many Relation)) NoRelation Any (λ c. declarations c k)
pass_declarations k = passes_then (λ _ k₁ c₁. relations most_text c₁ k₁) (λ _ _ _ _ _. tt) (pass_atoms k) (λ _ k₁ _. pass_relations k₁)

pub pass_horizon : (k : Known) → Passes Horizon Always Any (λ c. horizon c k)
unfolding horizon_given
pass_horizon k =
    passes_take mark.Horizon (λ _ c₁. taking (number_of (head c₁)) c₁ (λ n c₂. check (horizon_given k n (place_of (head c₁))) c₂ (λ f. take mark.Semicolon c₂ (λ _ c₃. ok tt c₃ f)))) (λ _.
    passes_taking number_of (λ n i c₂. check (horizon_given k n (place_of i)) c₂ (λ f. take mark.Semicolon c₂ (λ _ c₃. ok tt c₃ f))) (λ n i.
    passes_check (horizon_given k n (place_of i)) (late_horizon (fitness k.atoms k.relations n) k n (place_of i)) (λ f c₂. take mark.Semicolon c₂ (λ _ c₃. ok tt c₃ f)) (λ f.
    pass_map and_nothing (passes_take mark.Semicolon (λ _ c₃. ok tt c₃ f) (λ _. pass_ok tt f tt)))))
