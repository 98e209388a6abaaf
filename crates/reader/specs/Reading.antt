-- How a whole text is read, and what the problem passed then holds, for src/text and src/filling. Assumes nothing.
use Rattle.std.specs.Prelude.{◌≡◌, ℕ, cond, List, [], length, Ok, Err, Result, nat_lt}
use Rattle.faults.specs.declared.Fault.{Fault}
use Rattle.faults.specs.declared.Fault.TheVariants.{TextTooLong}
use Rattle.problem.specs.declared.node.Node.{Node}
use Rattle.problem.specs.declared.sort.Sort.{Sort}
use Rattle.problem.specs.declared.problem.Problem.{Problem}
use Rattle.relations.specs.Relations.{Declared}
use Rattle.problem.specs.Problems.{atoms_in, relations_in, horizon_of, nodes_in, sorts_in}
use Rattle.tokens.specs.declared.mark.Mark.TheVariants as mark
use Rattle.tokens.specs.Cursors.{Cursor, cursor_of}
use Rattle.formulas.specs.Bodies.{Body, Open}
use Rattle.formulas.specs.Outcomes as formulas
use Rattle.formulas.specs.Formulas.{formula, levels}
use Rattle.tokens.specs.Outcomes.{Outcome, ok, fail, then, take}
use Rattle.declaring.specs.Sets.{most_text}
use Rattle.declaring.specs.Known.{Known, Framed}
use Rattle.declaring.specs.Declaring.{declarations, horizon}
use Rattle.reader.specs.declared.refusal.Refusal.{Refusal}
use Rattle.reader.specs.declared.refusal.Refusal.TheVariants as refusal

-- all that a problem holds: names of atoms, relations, horizon, nodes of the formula and what each of them is
pub record Contents : Type 0 where
  pub atoms : List (List ℕ)
  pub relations : List Declared
  pub horizon : ℕ
  pub nodes : List Node
  pub sorts : List Sort

abbrev pub contents : Problem → Contents
contents p = record { atoms = atoms_in p; relations = relations_in p; horizon = horizon_of p; nodes = nodes_in p; sorts = sorts_in p }

abbrev pub contents_of : Body → Contents
contents_of b = record { atoms = b.atoms; relations = b.relations; horizon = b.horizon; nodes = b.nodes; sorts = b.sorts }

-- at the start of a text
abbrev pub nothing_known : Known
nothing_known = record { atoms = []; relations = [] }

-- at the start of a formula, over what is declared
unfoldable pub unread : Framed → Body
unread f = record { atoms = f.atoms; relations = f.relations; horizon = f.horizon; nodes = []; sorts = []; scope = []; parts = 0 }

abbrev pub no_bracket : Open
no_bracket = record { limit = 32; places = [] }

-- a formula without the brackets, of which none is open then
abbrev pub formula_only : formulas.Outcome ℕ → Outcome Body ℕ
formula_only (ok i c z) = ok i c z.0
formula_only (fail f c) = fail f c

-- "formula" F and the end of the text
unfoldable pub formula_text : Body → Cursor → Outcome Contents (Unit {0})
formula_text b c =
    take mark.Formula c (λ _ c₁.
    then (formula_only (formula levels c₁ b no_bracket)) (λ _ c₂ b₂.
    take mark.End c₂ (λ _ c₃. ok tt c₃ (contents_of b₂))))

-- a problem: declarations, horizon, formula
unfoldable pub problem_text : Cursor → Known → Outcome Contents (Unit {0})
problem_text c k = then (declarations c k) (λ _ c₁ k₁. then (horizon c₁ k₁) (λ _ c₂ f. formula_text (unread f) c₂))

abbrev pub value_of : {Z X : Type 0} → Outcome Z X → Result Z Fault
value_of (ok x c z) = Ok z
value_of (fail f c) = Err f

-- what a text says: the contents of a problem, or why it is refused
unfoldable pub reading : List ℕ → Result Contents Fault
reading text = cond (nat_lt most_text (length text)) (Err TextTooLong) (value_of (problem_text (cursor_of text) nothing_known))

abbrev pub contents_told : Result Problem Fault → Result Contents Fault
contents_told (Ok p) = Ok (contents p)
contents_told (Err f) = Err f

-- what a call answered to a text, and what the problem passed holds then
abbrev pub Filled : List ℕ → Problem → Problem → Result (Unit {0}) Fault → Type 0
Filled text before after (Ok u) = reading text ≡ Ok (contents after)
Filled text before after (Err f) = (reading text ≡ Err f) × (after ≡ before)

-- the same where memory may be wanting
abbrev pub Answered : List ℕ → Problem → Problem → Result (Unit {0}) Refusal → Type 0
Answered text before after (Ok u) = reading text ≡ Ok (contents after)
Answered text before after (Err (refusal.Fault f)) = (reading text ≡ Err f) × (after ≡ before)
Answered text before after (Err (refusal.Memory w)) = after ≡ before
