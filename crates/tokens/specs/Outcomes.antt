-- Steps of reading a text, and how they follow one another, for all that reads tokens. Assumes nothing.
use Rattle.std.specs.Prelude.{ℕ, Some, None, Ok, Err, Option, Result}
use Rattle.faults.specs.declared.Fault.{Fault}
use Rattle.tokens.specs.declared.mark.Mark.{Mark}
use Rattle.tokens.specs.Items.{refusal}
use Rattle.tokens.specs.Cursors.{Cursor, head, step, expected}

-- a value, what is left of the tokens, and what is read so far; or a fault and what is left after the token that settles it
pub data Outcome (Z X : Type 0) : Type 0 where
  ok : X → Cursor → Z → Outcome Z X
  fail : Fault → Cursor → Outcome Z X

abbrev pub told : {Z X : Type 0} → Result X Fault → Cursor → Z → Outcome Z X
told (Ok x) c z = ok x c z
told (Err f) c z = fail f c

abbrev pub then : {Z Y X W : Type 0} → Outcome Z X → (X → Cursor → Z → Outcome Y W) → Outcome Y W
then (ok x c z) k = k x c z
then (fail f c) k = fail f c

-- the next token cannot stand there
abbrev pub refused : {Z X : Type 0} → Cursor → Outcome Z X
refused c = fail (refusal (head c)) (step c)

-- a test that the token before settles
abbrev pub check : {Z X Y : Type 0} → Result X Fault → Cursor → (X → Outcome Z Y) → Outcome Z Y
check (Ok x) c k = k x
check (Err f) c k = fail f c

-- the next token is that mark: its place
abbrev pub take : {Z Y : Type 0} → Mark → Cursor → (ℕ → Cursor → Outcome Z Y) → Outcome Z Y
take m c k = check (expected m (head c)) (step c) (λ p. k p (step c))

-- the next token is of some kind
abbrev pub taking : {Z X Y : Type 0} → Option X → Cursor → (X → Cursor → Outcome Z Y) → Outcome Z Y
taking None c k = refused c
taking (Some x) c k = k x (step c)

-- what follows the next token if it is of some kind, and what else
abbrev pub perhaps : {X Y : Type 0} → Option X → Y → (X → Y) → Y
perhaps None y k = y
perhaps (Some x) y k = k x

-- what a step makes of what is read so far, or its fault
pub data Change (Z X : Type 0) : Type 0 where
  changed : X → Z → Change Z X
  unfit : Fault → Change Z X

abbrev pub changes : {Z X : Type 0} → Result X Fault → Z → Change Z X
changes (Ok x) z = changed x z
changes (Err f) z = unfit f

abbrev pub alter : {Z W X Y : Type 0} → Change Z X → Cursor → (X → Z → Outcome W Y) → Outcome W Y
alter (changed x z) c k = k x z
alter (unfit f) c k = fail f c
