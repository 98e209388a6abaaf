-- How the declarations of a text are read, one line a production, for src/declare. Assumes nothing.
use Rattle.std.specs.Prelude.{ℕ, zero, suc, cond, List, Some, None, Option}
use Rattle.std.specs.Option.{option_and_then}
use Rattle.relations.specs.declared.relation.Mutability.{Mutability}
use Rattle.relations.specs.declared.relation.Mutability.TheVariants.{Fixed, Mutable}
use Rattle.relations.specs.declared.relation.Arity.{Arity}
use Rattle.relations.specs.Relations.{declared}
use Rattle.tokens.specs.declared.mark.Mark.TheVariants as mark
use Rattle.tokens.specs.declared.token.Word.{Word}
use Rattle.tokens.specs.declared.token.Word.TheVariants as words
use Rattle.tokens.specs.Lexing.{Tok, name, word, number, sign, end}
use Rattle.tokens.specs.Items.{Item, token_of, place_of, name_of, number_of, is_mark}
use Rattle.tokens.specs.Cursors.{Cursor, head, step}
use Rattle.tokens.specs.Outcomes.{Outcome, ok, then, take, taking, perhaps, check, alter}
use Rattle.declaring.specs.Sets.{outside, tuple_set, most_text}
use Rattle.declaring.specs.Known.{Known, Framed, atomed, nameable, related, arity_given, within, horizon_given}

-- NAME, an atom that is declared
abbrev pub atom : Cursor → Known → Outcome Known (Unit {0})
atom c k = taking (name_of (head c)) c (λ x c₁. alter (atomed x (place_of (head c)) k) c₁ (λ _ k₁. ok tt c₁ k₁))

-- atoms up to ";", at most n
unfoldable pub further_atoms : ℕ → Cursor → Known → Outcome Known (Unit {0})
further_atoms zero c k = ok tt c k
further_atoms (suc n) c k = cond (is_mark mark.Semicolon (head c)) (ok tt c k) (then (atom c k) (λ _ c₁ k₁. further_atoms n c₁ k₁))

-- "atoms", one or more NAME, ";"
abbrev pub atoms : Cursor → Known → Outcome Known (Unit {0})
atoms c k =
    take mark.Atoms c (λ _ c₁. then (atom c₁ k) (λ _ c₂ k₂. then (further_atoms most_text c₂ k₂) (λ _ c₃ k₃. take mark.Semicolon c₃ (λ _ c₄. ok tt c₄ k₃))))

abbrev pub mutability_of_word : Word → Option Mutability
mutability_of_word words.Atoms = None
mutability_of_word words.Rel = Some Fixed
mutability_of_word words.Var = Some Mutable
mutability_of_word words.Horizon = None
mutability_of_word words.Formula = None
mutability_of_word (words.Prefix p) = None
mutability_of_word (words.Infix i) = None
mutability_of_word words.All = None
mutability_of_word words.Some = None
mutability_of_word words.No = None
mutability_of_word words.In = None
mutability_of_word (words.Constant c) = None

abbrev pub mutability_in : Tok → Option Mutability
mutability_in (name s) = None
mutability_in (word w) = mutability_of_word w
mutability_in (number s) = None
mutability_in (sign s) = None
mutability_in end = None

unfoldable pub mutability_of : Item → Option Mutability
mutability_of i = option_and_then mutability_in (token_of i)

-- NUMBER, an arity
abbrev pub arity : Cursor → Outcome (Unit {0}) Arity
arity c = taking (number_of (head c)) c (λ n c₁. check (arity_given n (place_of (head c))) c₁ (λ a. ok a c₁ tt))

-- set set ";", the lower and the upper one
abbrev pub bounds : Mutability → List ℕ → Arity → Cursor → Known → Outcome Known (Unit {0})
bounds m x a c k =
    then (tuple_set k.atoms a c) (λ _ c₁ l.
    then (tuple_set k.atoms a c₁) (λ _ c₂ u.
    check (within (outside l u.held)) c₂ (λ _.
    take mark.Semicolon c₂ (λ _ c₃. ok tt c₃ (related (declared x m a l.held u.held) k)))))

-- NAME ":" NUMBER set set ";", after "rel" or "var"
abbrev pub relation : Mutability → Cursor → Known → Outcome Known (Unit {0})
relation m c k =
    taking (name_of (head c)) c (λ x c₁.
    check (nameable x (place_of (head c)) k) c₁ (λ _.
    take mark.Colon c₁ (λ _ c₂.
    then (arity c₂) (λ a c₃ _. bounds m x a c₃ k))))

-- any number of declarations, at most n
unfoldable pub relations : ℕ → Cursor → Known → Outcome Known (Unit {0})
relations zero c k = ok tt c k
relations (suc n) c k = perhaps (mutability_of (head c)) (ok tt c k) (λ m. then (relation m (step c) k) (λ _ c₁ k₁. relations n c₁ k₁))

-- the atoms and the relations
abbrev pub declarations : Cursor → Known → Outcome Known (Unit {0})
declarations c k = then (atoms c k) (λ _ c₁ k₁. relations most_text c₁ k₁)

-- "horizon" NUMBER ";"
abbrev pub horizon : Cursor → Known → Outcome Framed (Unit {0})
horizon c k =
    take mark.Horizon c (λ _ c₁.
    taking (number_of (head c₁)) c₁ (λ n c₂.
    check (horizon_given k n (place_of (head c₁))) c₂ (λ f.
    take mark.Semicolon c₂ (λ _ c₃. ok tt c₃ f))))
