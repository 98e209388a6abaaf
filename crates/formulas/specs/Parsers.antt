-- What a parser did, as the definitions of reading speak of it. Assumes nothing.
use Rattle.std.specs.Prelude.{Result}
use Rattle.faults.specs.declared.Fault.{Fault}
use Rattle.tokens.specs.Cursors.{Cursor, cursor}
use Rattle.stack.specs.declared.stack.Stack.{Stack}
use Rattle.formulas.specs.declared.sketch.Bracket.{Bracket}
use Rattle.formulas.specs.declared.parser.Parser.{Parser}
use Rattle.formulas.specs.Bodies.{Body, Open, body, opens}
use Rattle.formulas.specs.Outcomes.{Outcome, told}

-- what a call answered, with what it left
abbrev pub answer : {X : Type 0} → Result X Fault → Parser → Stack Bracket → Outcome X
answer r p s = told r (cursor p.tokens) (body p.sketch) (opens s)

-- what is to be answered, from where a call began
abbrev pub from : {Y : Type 0} → Parser → Stack Bracket → (Cursor → Body → Open → Y) → Y
from p s f = f (cursor p.tokens) (body p.sketch) (opens s)
