-- What a reader of declarations did, as the definitions of reading speak of it. Assumes nothing.
use Rattle.std.specs.Prelude.{◌≡◌, Result}
use Rattle.faults.specs.declared.Fault.{Fault}
use Rattle.tokens.specs.Cursors.{Cursor, cursor}
use Rattle.tokens.specs.Outcomes.{Outcome, told}
use Rattle.declaring.specs.declared.reader.Reader.{Reader}
use Rattle.declaring.specs.declared.reader.Lent.{Lent}
use Rattle.declaring.specs.Known.{Known, known}

-- what a call answered, with what it left
abbrev pub answer : {X : Type 0} → Result X Fault → Reader → Outcome Known X
answer r s = told r (cursor s.tokens) (known s.declared)

-- what is to be answered, from where a call began
abbrev pub from : {Y : Type 0} → Reader → (Cursor → Known → Y) → Y
from s f = f (cursor s.tokens) (known s.declared)

-- the same, where both are lent
abbrev pub lent_answer : {X : Type 0} → Result X Fault → Lent → Outcome Known X
lent_answer r s = told r (cursor s.tokens.now) (known s.declared.now)

abbrev pub lent_from : {Y : Type 0} → Lent → (Cursor → Known → Y) → Y
lent_from s f = f (cursor s.tokens.now) (known s.declared.now)

-- what was lent is still what is lent
abbrev pub SameLoans : Lent → Lent → Type 0
SameLoans s t = (t.tokens.ghost_name ≡ s.tokens.ghost_name) × (t.declared.ghost_name ≡ s.declared.ghost_name)
