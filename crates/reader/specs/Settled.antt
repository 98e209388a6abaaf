-- What it means that a refusal is settled by a token, and that the tokens before a refused one are right so far. Assumes nothing.
use Rattle.std.specs.Prelude.{◌≡◌, ℕ, zero, suc, ◌≤◌, ◌==◌, ◌||◌, Bool, true, nat_le, List, [], ◌∷◌, ◌++◌, length, Ok, Err, Result}
use Rattle.faults.specs.declared.Fault.{Fault}
use Rattle.faults.specs.Table.{entry}
use Rattle.tokens.specs.declared.mark.Mark.TheVariants as mark
use Rattle.tokens.specs.Items.{Item, is_mark, refusal as refusal_of}
use Rattle.tokens.specs.Cursors.{Cursor, cursor_of, head, step}
use Rattle.tokens.specs.Outcomes.{fail}
use Rattle.declaring.specs.Sets.{most_text}
use Rattle.reader.specs.Reading.{nothing_known, problem_text, reading}
use Rattle.reader.specs.Grammar.{Text}
use Rattle.reader.specs.declared.refusal.Refusal.{Refusal}
use Rattle.reader.specs.declared.refusal.Refusal.TheVariants as refusal

-- after so many tokens
abbrev pub after : ℕ → Cursor → Cursor
after zero c = c
after (suc n) c = after n (step c)

-- the next tokens, so many
abbrev pub taken : ℕ → Cursor → List Item
taken zero c = []
taken (suc n) c = head c ∷ taken n (step c)

-- so many tokens are the same, at the same places
abbrev pub Alike : ℕ → Cursor → Cursor → Type 0
Alike zero c d = Unit {0}
Alike (suc n) c d = (head c ≡ head d) × Alike n (step c) (step d)

-- a ' sign comes next in both texts or in neither, and the same with a ":"
abbrev pub Onward : Cursor → Cursor → Type 0
Onward c d = (is_mark mark.Prime (head c) ≡ is_mark mark.Prime (head d)) × (is_mark mark.Colon (head c) ≡ is_mark mark.Colon (head d))

-- a refusal that the next token may put off: of arities or of past depth, where a ' sign prolongs the part; of these and of an unknown name
-- after "some", where a ":" makes it the name of a variable
abbrev pub may_be_put_off : Fault → Bool
may_be_put_off f = (entry f).number == 6 || ((entry f).number == 7 || (entry f).number == 8)

-- where the next token may put the refusal off, both texts go on alike in that
abbrev pub Ends : Fault → Cursor → Cursor → Type 0
Ends f c d = may_be_put_off f ≡ true → Onward c d

-- a refusal of a token: of the text's bytes, or of one that is not allowed
abbrev pub is_early : Fault → Bool
is_early f = nat_le (entry f).number 4

-- the last of so many tokens is refused, and those before it are the beginning of what is wanted
pub record Refuses (G : List Item → Type 0) (c : Cursor) (f : Fault) (tokens : ℕ) : Type 0 where
  pub before : ℕ
  pub last : tokens ≡ suc before
  pub refused : f ≡ refusal_of (head (after before c))
  pub rest : List Item
  pub shape : G (taken before c ++ rest)

-- a refusal is settled by one of a text's tokens: every text that is not too long and has the same tokens up to that one is refused with the
-- same fault at the same place, for some faults if it goes on alike as far as a ' sign or a ":" is concerned. A refusal of a token is settled
-- by that token: those before it are the beginning of some text of the grammar, and with it they are the beginning of none that is not too long
pub record SettledByToken (text : List ℕ) (f : Fault) : Type 0 where
  pub tokens : ℕ
  pub settles : problem_text (cursor_of text) nothing_known ≡ fail f (after tokens (cursor_of text))
  pub whatever_follows : (other : List ℕ) → length other ≤ most_text → Alike tokens (cursor_of text) (cursor_of other) → Ends f (after tokens (cursor_of text)) (after tokens (cursor_of other)) → reading other ≡ Err f
  pub right_so_far : is_early f ≡ true → Refuses Text (cursor_of text) f tokens
  pub and_no_further : is_early f ≡ true → (more : List Item) → length (taken tokens (cursor_of text) ++ more) ≤ most_text → Text (taken tokens (cursor_of text) ++ more) → ⊥

-- a text follows the grammar: its tokens, with its end for the last, are a text of the grammar
pub record FollowsGrammar (text : List ℕ) : Type 0 where
  pub tokens : ℕ
  pub shape : Text (taken tokens (cursor_of text))

-- what is known of an answer: an accepted text follows the grammar, and the refusal of one that is not too long is settled by one of its tokens
abbrev pub Settled : {X : Type 0} → List ℕ → Result X Fault → Type 0
Settled text (Ok x) = FollowsGrammar text
Settled text (Err f) = length text ≤ most_text → SettledByToken text f

-- the same where memory may be wanting
abbrev pub SettledUnlessMemory : List ℕ → Result (Unit {0}) Refusal → Type 0
SettledUnlessMemory text (Ok u) = FollowsGrammar text
SettledUnlessMemory text (Err (refusal.Fault f)) = length text ≤ most_text → SettledByToken text f
SettledUnlessMemory text (Err (refusal.Memory w)) = Unit {0}
