-- How each production of the declarations tells.
use Rattle.std.specs.Prelude.{nat_lt, length}
use Rattle.std.specs.Option.{ok_or}
use Rattle.std.proofs.Common.{◌≡◌, ℕ, zero, suc, Bool, true, false, cond, List, [], ◌∷◌, ◌++◌, Some, None, Ok, Err, Option, refl, ap, subst, append-nil, append_assoc}
use Rattle.faults.specs.declared.Fault.TheVariants.{ArityMismatch, NameKnown, OverLimit}
use Rattle.names.specs.Lookups.{index_of}
use Rattle.relations.specs.declared.relation.Mutability.{Mutability}
use Rattle.relations.specs.declared.relation.Arity.{Arity}
use Rattle.relations.specs.declared.free.Unfit.{Unfit}
use Rattle.relations.specs.declared.free.Unfit.TheVariants as unfitness
use Rattle.relations.specs.Relations.{declared, arity_of}
use Rattle.relations.specs.Free.{fitness}
use Rattle.tokens.specs.declared.mark.Mark.TheVariants as mark
use Rattle.tokens.specs.Lexing.{number}
use Rattle.tokens.specs.Items.{Item, at, place_of, name_of, number_of, is_mark}
use Rattle.tokens.specs.Cursors.{head, step}
use Rattle.tokens.specs.Outcomes.{ok, then, take, taking, check, changed, unfit, alter}
use Rattle.declaring.specs.Sets.{Listed, nothing, noted, outside, numbered, found_at, atom_named, atom_number, second_number, tuple, tuples, most_text, tuple_set}
use Rattle.declaring.specs.Known.{Known, taken, atomed, nameable, related, arity_from, arity_given, within, fitting, horizon_given}
use Rattle.declaring.specs.Declaring.{atom, further_atoms, atoms, mutability_of, arity, bounds, relation, relations, declarations, horizon}
use Rattle.reader.specs.Grammar.{Is, IsName, IsNumber, IsMutability, One, Then, Many, no_more, one_more, Perhaps, not_there, there, Tuple, Set, Atoms, Relation, Horizon}
use Rattle.reader.proofs.Telling.{Shape, Full, nothing as looks_at_nothing, first as looks_at_first, starts, soft, Tells, Late, passes, refuses, LateChange, alters, keeps, full_one, full_mark, full_name, full_then, full_many, tell_ok, tell_check, tell_alter, tell_take, tell_taking, tell_unless, tell_where, tell_perhaps, tell_map, told_map, told_next, told_then, tell_then}

-- the last part of a row is nothing
pub ends : {G : Shape} (us : List Item) → Then G (λ vs. vs ≡ []) us → G us
ends {G} us h = rw (h.is, h.two, append-nil) h.one

full_number : Full (One IsNumber)
full_number = full_one (at (number []) 0) (_, refl)

-- names of atoms

pub late_named : (o : Option ℕ) (p : ℕ) → Late (found_at o p)
late_named None p = refuses refl
late_named (Some i) p = passes

tell_atom_number : (ns : List (List ℕ)) → Tells starts looks_at_nothing (One IsName) (atom_number ns)
unfolding atom_named
tell_atom_number ns =
    tell_map ends (tell_taking name_of full_name ([], refl) (λ x i c₁. check (atom_named x ns (place_of i)) c₁ (λ n. ok n c₁ tt)) (λ x i.
    tell_check (atom_named x ns (place_of i)) (late_named (index_of x ns) (place_of i)) (λ n c₁. ok n c₁ tt) (λ n. tell_ok {k = soft} n tt tt refl)))

tell_second_number : (ns : List (List ℕ)) → Tells soft looks_at_first (Perhaps (One IsName)) (second_number ns)
tell_second_number ns =
    tell_perhaps None tt not_there name_of (λ _ c. then (atom_number ns c) (λ i c₁ _. ok (Some i) c₁ tt)) (λ c d e. ap name_of e)
    (λ c _ e. told_map (λ us h. there (ends us h)) (told_then (λ i _ c₁. ok (Some i) c₁ tt) tt tt c ((tell_atom_number ns).of c) ([], refl) (λ i _. tell_ok {k = soft} (Some i) tt tt refl)))

-- sets of tuples

pub late_tuple : (o : Option ℕ) (p : ℕ) → Late (ok_or o (ArityMismatch p))
late_tuple None p = refuses refl
late_tuple (Some t) p = passes

full_end : Full (One (Is mark.CloseParen))
full_end = full_mark mark.CloseParen

full_second : Full (Then (Perhaps (One IsName)) (One (Is mark.CloseParen)))
full_second = full_then ([], not_there) full_end

tell_tuple : (ns : List (List ℕ)) (a : Arity) (s : Listed) → Tells starts looks_at_nothing Tuple (λ c. tuple ns a c s)
tell_tuple ns a s =
    tell_take mark.OpenParen (full_then full_name full_second) (λ p c₁.
    then (atom_number ns c₁) (λ x c₂ _.
    then (second_number ns c₂) (λ y c₃ _.
    take mark.CloseParen c₃ (λ _ c₄.
    check (ok_or (numbered a (length ns) x y) (ArityMismatch p)) c₄ (λ t. ok tt c₄ (noted t p s)))))) (λ p.
    tell_then (λ x _ c₂.
    then (second_number ns c₂) (λ y c₃ _.
    take mark.CloseParen c₃ (λ _ c₄.
    check (ok_or (numbered a (length ns) x y) (ArityMismatch p)) c₄ (λ t. ok tt c₄ (noted t p s))))) tt tt (tell_atom_number ns) full_second (λ x _.
    tell_then (λ y _ c₃.
    take mark.CloseParen c₃ (λ _ c₄.
    check (ok_or (numbered a (length ns) x y) (ArityMismatch p)) c₄ (λ t. ok tt c₄ (noted t p s)))) tt tt (tell_second_number ns) full_end (λ y _.
    tell_map ends (tell_take mark.CloseParen ([], refl) (λ _ c₄. check (ok_or (numbered a (length ns) x y) (ArityMismatch p)) c₄ (λ t. ok tt c₄ (noted t p s))) (λ _.
    tell_check (ok_or (numbered a (length ns) x y) (ArityMismatch p)) (late_tuple (numbered a (length ns) x y) p) (λ t c₄. ok tt c₄ (noted t p s)) (λ t. tell_ok {k = soft} tt (noted t p s) tt refl))))))

pub many_more : {G : Shape} (us : List Item) → Then G (Many G) us → Many G us
many_more us h = rw h.is (one_more h.one h.two)

tell_tuples : (n : ℕ) (ns : List (List ℕ)) (a : Arity) (s : Listed) → Tells soft looks_at_first (Many Tuple) (λ c. tuples n ns a c s)
unfolding tuples
tell_tuples zero ns a s = tell_ok {k = soft} tt s tt no_more
tell_tuples (suc n) ns a s =
    tell_where tt s no_more (is_mark mark.OpenParen) (λ c. then (tuple ns a c s) (λ _ c₁ s₁. tuples n ns a c₁ s₁)) (λ c d e. ap (is_mark mark.OpenParen) e)
    (λ c _. told_map many_more (told_then (λ _ s₁ c₁. tuples n ns a c₁ s₁) tt tt c ((tell_tuple ns a s).of c) full_many (λ _ s₁. tell_tuples n ns a s₁)))

full_close : Full (One (Is mark.CloseBrace))
full_close = full_mark mark.CloseBrace

pub full_set : Full Set
full_set = full_then (full_mark mark.OpenBrace) (full_then full_many full_close)

tell_set : (ns : List (List ℕ)) (a : Arity) → Tells starts looks_at_nothing Set (tuple_set ns a)
tell_set ns a =
    tell_take mark.OpenBrace (full_then full_many full_close) (λ _ c₁. then (tuples most_text ns a c₁ nothing) (λ _ c₂ s. take mark.CloseBrace c₂ (λ _ c₃. ok tt c₃ s))) (λ _.
    tell_then (λ _ s c₂. take mark.CloseBrace c₂ (λ _ c₃. ok tt c₃ s)) tt tt (tell_tuples most_text ns a nothing) full_close (λ _ s.
    tell_map ends (tell_take mark.CloseBrace ([], refl) (λ _ c₃. ok tt c₃ s) (λ _. tell_ok {k = soft} tt s tt refl))))

-- atoms

pub late_atomed : (x : List ℕ) (p : ℕ) (k : Known) → LateChange (atomed x p k)
unfolding atomed
late_atomed x p k = go (taken x k) (nat_lt (length k.atoms) 8)
  where
    go : (b t : Bool) → LateChange {Z = Known} {X = Unit {0}} (cond b (unfit (NameKnown p)) (cond t (changed tt (record { atoms = k.atoms ++ x ∷ []; relations = k.relations })) (unfit (OverLimit p))))
    go true t = keeps refl
    go false true = alters
    go false false = keeps refl

tell_atom : (k : Known) → Tells starts looks_at_nothing (One IsName) (λ c. atom c k)
tell_atom k =
    tell_map ends (tell_taking name_of full_name ([], refl) (λ x i c₁. alter (atomed x (place_of i) k) c₁ (λ _ k₁. ok tt c₁ k₁)) (λ x i.
    tell_alter (atomed x (place_of i) k) (late_atomed x (place_of i) k) (λ _ k₁ c₁. ok tt c₁ k₁) (λ _ k₁. tell_ok {k = soft} tt k₁ tt refl)))

tell_further : (n : ℕ) (k : Known) → Tells soft looks_at_first (Many (One IsName)) (λ c. further_atoms n c k)
unfolding further_atoms
tell_further zero k = tell_ok {k = soft} tt k tt no_more
tell_further (suc n) k =
    tell_unless tt k no_more (is_mark mark.Semicolon) (λ c. then (atom c k) (λ _ c₁ k₁. further_atoms n c₁ k₁)) (λ c d e. ap (is_mark mark.Semicolon) e)
    (tell_map many_more (tell_then (λ _ k₁ c₁. further_atoms n c₁ k₁) tt tt (tell_atom k) full_many (λ _ k₁. tell_further n k₁)))

full_semicolon : Full (One (Is mark.Semicolon))
full_semicolon = full_mark mark.Semicolon

tell_atoms : (k : Known) → Tells starts looks_at_nothing Atoms (λ c. atoms c k)
tell_atoms k =
    tell_take mark.Atoms (full_then full_name (full_then full_many full_semicolon)) (λ _ c₁. then (atom c₁ k) (λ _ c₂ k₂. then (further_atoms most_text c₂ k₂) (λ _ c₃ k₃. take mark.Semicolon c₃ (λ _ c₄. ok tt c₄ k₃)))) (λ _.
    tell_then (λ _ k₂ c₂. then (further_atoms most_text c₂ k₂) (λ _ c₃ k₃. take mark.Semicolon c₃ (λ _ c₄. ok tt c₄ k₃))) tt tt (tell_atom k) (full_then full_many full_semicolon) (λ _ k₂.
    tell_then (λ _ k₃ c₃. take mark.Semicolon c₃ (λ _ c₄. ok tt c₄ k₃)) tt tt (tell_further most_text k₂) full_semicolon (λ _ k₃.
    tell_map ends (tell_take mark.Semicolon ([], refl) (λ _ c₄. ok tt c₄ k₃) (λ _. tell_ok {k = soft} tt k₃ tt refl)))))

-- relations

pub late_arity : (o : Option Arity) (p : ℕ) → Late (arity_from o p)
late_arity None p = refuses refl
late_arity (Some a) p = passes

tell_arity : Tells starts looks_at_nothing (One IsNumber) arity
unfolding arity_given
tell_arity =
    tell_map ends (tell_taking number_of full_number ([], refl) (λ n i c₁. check (arity_given n (place_of i)) c₁ (λ a. ok a c₁ tt)) (λ n i.
    tell_check (arity_given n (place_of i)) (late_arity (arity_of n) (place_of i)) (λ a c₁. ok a c₁ tt) (λ a. tell_ok {k = soft} a tt tt refl)))

pub late_within : (o : Option ℕ) → Late (within o)
late_within None = passes
late_within (Some p) = refuses refl

abbrev pub Bounds : Shape
Bounds = Then Set (Then Set (One (Is mark.Semicolon)))

full_bounds : Full Bounds
full_bounds = full_then full_set (full_then full_set full_semicolon)

tell_bounds : (m : Mutability) (x : List ℕ) (a : Arity) (k : Known) → Tells starts looks_at_nothing Bounds (λ c. bounds m x a c k)
tell_bounds m x a k =
    tell_then (λ _ l c₁. then (tuple_set k.atoms a c₁) (λ _ c₂ u. check (within (outside l u.held)) c₂ (λ _. take mark.Semicolon c₂ (λ _ c₃. ok tt c₃ (related (declared x m a l.held u.held) k))))) tt tt (tell_set k.atoms a) (full_then full_set full_semicolon) (λ _ l.
    tell_then (λ _ u c₂. check (within (outside l u.held)) c₂ (λ _. take mark.Semicolon c₂ (λ _ c₃. ok tt c₃ (related (declared x m a l.held u.held) k)))) tt tt (tell_set k.atoms a) full_semicolon (λ _ u.
    tell_check (within (outside l u.held)) (late_within (outside l u.held)) (λ _ c₂. take mark.Semicolon c₂ (λ _ c₃. ok tt c₃ (related (declared x m a l.held u.held) k))) (λ _.
    tell_map ends (tell_take mark.Semicolon ([], refl) (λ _ c₃. ok tt c₃ (related (declared x m a l.held u.held) k)) (λ _. tell_ok {k = soft} tt (related (declared x m a l.held u.held) k) tt refl)))))

pub late_nameable : (x : List ℕ) (p : ℕ) (k : Known) → Late (nameable x p k)
unfolding nameable
late_nameable x p k = go (taken x k) (nat_lt (length k.relations) 12)
  where
    go : (b t : Bool) → Late {X = Unit {0}} (cond b (Err (NameKnown p)) (cond t (Ok tt) (Err (OverLimit p))))
    go true t = refuses refl
    go false true = passes
    go false false = refuses refl

abbrev pub Named : Shape
Named = Then (One IsName) (Then (One (Is mark.Colon)) (Then (One IsNumber) Bounds))

tell_relation : (m : Mutability) (k : Known) → Tells starts looks_at_nothing Named (λ c. relation m c k)
tell_relation m k =
    tell_taking name_of full_name (full_then (full_mark mark.Colon) (full_then full_number full_bounds)) (λ x i c₁. check (nameable x (place_of i) k) c₁ (λ _. take mark.Colon c₁ (λ _ c₂. then (arity c₂) (λ a c₃ _. bounds m x a c₃ k)))) (λ x i.
    tell_check (nameable x (place_of i) k) (late_nameable x (place_of i) k) (λ _ c₁. take mark.Colon c₁ (λ _ c₂. then (arity c₂) (λ a c₃ _. bounds m x a c₃ k))) (λ _.
    tell_take mark.Colon (full_then full_number full_bounds) (λ _ c₂. then (arity c₂) (λ a c₃ _. bounds m x a c₃ k)) (λ _.
    tell_then (λ a _ c₃. bounds m x a c₃ k) tt tt tell_arity full_bounds (λ a _. tell_bounds m x a k))))

tell_relations : (n : ℕ) (k : Known) → Tells soft looks_at_first (Many Relation) (λ c. relations n c k)
unfolding relations
tell_relations zero k = tell_ok {k = soft} tt k tt no_more
tell_relations (suc n) k =
    tell_perhaps tt k no_more mutability_of (λ m c. then (relation m (step c) k) (λ _ c₁ k₁. relations n c₁ k₁)) (λ c d e. ap mutability_of e)
    (λ c m e. told_map regroup (told_next (λ _ u. then (relation m u k) (λ _ c₁ k₁. relations n c₁ k₁)) c (m, e) (told_then (λ _ k₁ c₁. relations n c₁ k₁) tt tt (step c) ((tell_relation m k).of (step c)) full_many (λ _ k₁. tell_relations n k₁))))
  where
    regroup : (us : List Item) → Then (One IsMutability) (Then Named (Many Relation)) us → Many Relation us
    regroup us h = rw (h.is, h.two.is) (subst (Many Relation) (append_assoc h.left h.two.left h.two.right) (one_more (record { left = h.left; right = h.two.left; is = refl; one = h.one; two = h.two.one }) h.two.two))

pub tell_declarations : (k : Known) → Tells starts looks_at_first (Then Atoms (Many Relation)) (λ c. declarations c k)
tell_declarations k = tell_then (λ _ k₁ c₁. relations most_text c₁ k₁) tt tt (tell_atoms k) full_many (λ _ k₁. tell_relations most_text k₁)

pub late_horizon : (u : Option Unfit) (k : Known) (n p : ℕ) → Late (fitting u k n p)
late_horizon None k n p = passes
late_horizon (Some unfitness.Limit) k n p = refuses refl
late_horizon (Some unfitness.FreePlaces) k n p = refuses refl

pub full_horizon : Full Horizon
full_horizon = full_then (full_mark mark.Horizon) (full_then full_number full_semicolon)

pub tell_horizon : (k : Known) → Tells starts looks_at_nothing Horizon (λ c. horizon c k)
unfolding horizon_given
tell_horizon k =
    tell_take mark.Horizon (full_then full_number full_semicolon) (λ _ c₁. taking (number_of (head c₁)) c₁ (λ n c₂. check (horizon_given k n (place_of (head c₁))) c₂ (λ f. take mark.Semicolon c₂ (λ _ c₃. ok tt c₃ f)))) (λ _.
    tell_taking number_of full_number full_semicolon (λ n i c₂. check (horizon_given k n (place_of i)) c₂ (λ f. take mark.Semicolon c₂ (λ _ c₃. ok tt c₃ f))) (λ n i.
    tell_check (horizon_given k n (place_of i)) (late_horizon (fitness k.atoms k.relations n) k n (place_of i)) (λ f c₂. take mark.Semicolon c₂ (λ _ c₃. ok tt c₃ f)) (λ f.
    tell_map ends (tell_take mark.Semicolon ([], refl) (λ _ c₃. ok tt c₃ f) (λ _. tell_ok {k = soft} tt f tt refl)))))
