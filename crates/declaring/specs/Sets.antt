-- How a set of tuples is read, for src/tuples and src/sets. Assumes nothing.
use Rattle.std.specs.Prelude.{ℕ, zero, suc, ◌+◌, ◌*◌, min, Bool, true, false, cond, not, ◌&&◌, List, [], ◌∷◌, length, replicate, Some, None, Ok, Err, Option, Result, slice_index_or, slice_set}
use Rattle.std.specs.Option.{ok_or}
use Rattle.faults.specs.declared.Fault.{Fault}
use Rattle.faults.specs.declared.Fault.TheVariants.{NameUnknown, ArityMismatch}
use Rattle.names.specs.Lookups.{index_of}
use Rattle.relations.specs.declared.relation.Arity.{Arity}
use Rattle.relations.specs.declared.relation.Arity.TheVariants.{One, Two}
use Rattle.tokens.specs.declared.mark.Mark.TheVariants as mark
use Rattle.tokens.specs.Items.{place_of, name_of, is_mark}
use Rattle.tokens.specs.Cursors.{Cursor, head}
use Rattle.declaring.specs.declared.tuples.Tuples.{Tuples}
use Rattle.tokens.specs.Outcomes.{Outcome, ok, fail, then, take, taking, perhaps, check}

-- which tuples a set has, and where each stands first
pub record Listed : Type 0 where
  pub held : List Bool
  pub places : List ℕ

unfoldable pub listed : Tuples → Listed
listed t = record { held = t.set.held; places = t.places }

unfoldable pub nothing : Listed
nothing = record { held = replicate 64 false; places = replicate 64 0 }

-- a tuple more, at a place; a repeated one counts once
unfoldable pub noted : ℕ → ℕ → Listed → Listed
noted t p s = cond (slice_index_or s.held t false) s (record { held = slice_set s.held t true; places = slice_set s.places t p })

-- the smaller of two places that may be missing
abbrev pub earlier : Option ℕ → Option ℕ → Option ℕ
earlier None q = q
earlier (Some p) None = Some p
earlier (Some p) (Some q) = Some (min p q)

-- the place of a tuple that is held and not in the other set
abbrev pub outside_at : Bool → ℕ → Bool → Option ℕ
outside_at h p u = cond (h && not u) (Some p) None

-- the place of the first tuple that is outside the other set
unfoldable pub outside_of : List Bool → List ℕ → List Bool → Option ℕ
outside_of [] ps us = None
outside_of (h ∷ hs) [] us = None
outside_of (h ∷ hs) (p ∷ ps) [] = None
outside_of (h ∷ hs) (p ∷ ps) (u ∷ us) = earlier (outside_at h p u) (outside_of hs ps us)

unfoldable pub outside : Listed → List Bool → Option ℕ
outside s us = outside_of s.held s.places us

abbrev pub found_at : Option ℕ → ℕ → Result ℕ Fault
found_at (Some i) p = Ok i
found_at None p = Err (NameUnknown p)

-- the number of an atom with a name
unfoldable pub atom_named : List ℕ → List (List ℕ) → ℕ → Result ℕ Fault
atom_named x ns p = found_at (index_of x ns) p

-- NAME, an atom
abbrev pub atom_number : List (List ℕ) → Cursor → Outcome (Unit {0}) ℕ
atom_number ns c = taking (name_of (head c)) c (λ x c₁. check (atom_named x ns (place_of (head c))) c₁ (λ i. ok i c₁ tt))

-- NAME, an atom, or nothing
abbrev pub second_number : List (List ℕ) → Cursor → Outcome (Unit {0}) (Option ℕ)
second_number ns c = perhaps (name_of (head c)) (ok None c tt) (λ _. then (atom_number ns c) (λ i c₁ _. ok (Some i) c₁ tt))

-- the number of a tuple of n atoms in all, if its length fits the arity
abbrev pub numbered : Arity → ℕ → ℕ → Option ℕ → Option ℕ
numbered One n x None = Some x
numbered One n x (Some y) = None
numbered Two n x None = None
numbered Two n x (Some y) = Some (x * n + y)

-- "(" one or two atoms ")"
abbrev pub tuple : List (List ℕ) → Arity → Cursor → Listed → Outcome Listed (Unit {0})
tuple ns a c s =
    take mark.OpenParen c (λ p c₁.
    then (atom_number ns c₁) (λ x c₂ _.
    then (second_number ns c₂) (λ y c₃ _.
    take mark.CloseParen c₃ (λ _ c₄.
    check (ok_or (numbered a (length ns) x y) (ArityMismatch p)) c₄ (λ t. ok tt c₄ (noted t p s))))))

-- any number of tuples, at most n
unfoldable pub tuples : ℕ → List (List ℕ) → Arity → Cursor → Listed → Outcome Listed (Unit {0})
tuples zero ns a c s = ok tt c s
tuples (suc n) ns a c s = cond (is_mark mark.OpenParen (head c)) (then (tuple ns a c s) (λ _ c₁ s₁. tuples n ns a c₁ s₁)) (ok tt c s)

-- the most bytes of a text, so more than it has tokens of any kind in a row
abbrev pub most_text : ℕ
most_text = 8192

-- what was read of a set
abbrev pub set_told : Result Tuples Fault → Cursor → Outcome Listed (Unit {0})
set_told (Ok t) c = ok tt c (listed t)
set_told (Err f) c = fail f c

-- "{" tuples "}"
abbrev pub tuple_set : List (List ℕ) → Arity → Cursor → Outcome Listed (Unit {0})
tuple_set ns a c = take mark.OpenBrace c (λ _ c₁. then (tuples most_text ns a c₁ nothing) (λ _ c₂ s. take mark.CloseBrace c₂ (λ _ c₃. ok tt c₃ s)))
