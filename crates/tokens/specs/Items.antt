-- A text as the list of its tokens, and what of it is ahead of a reader. Assumes nothing.
use Rattle.std.specs.Prelude.{ℕ, zero, suc, ◌+◌, Bool, false, List, [], ◌∷◌, length, take, drop, Option, Result, ◌==◌}
use Rattle.std.specs.declared.option.Option.TheVariants as option
use Rattle.std.specs.declared.result.Result.TheVariants as result
use Rattle.faults.specs.declared.Fault.{Fault}
use Rattle.faults.specs.declared.Fault.TheVariants.{NotAllowed}
use Rattle.faults.specs.Table.{entry}
use Rattle.tokens.specs.declared.token.Token.{Token}
use Rattle.tokens.specs.declared.token.Token.TheVariants as token
use Rattle.tokens.specs.declared.token.Spot.{Spot}
use Rattle.tokens.specs.declared.token.Word.{Word}
use Rattle.tokens.specs.declared.token.Word.TheVariants as words
use Rattle.tokens.specs.declared.token.Sign.{Sign}
use Rattle.tokens.specs.declared.token.Sign.TheVariants as signs
use Rattle.tokens.specs.declared.tokens.Tokens.{Tokens}
use Rattle.tokens.specs.declared.mark.Mark.{Mark}
use Rattle.tokens.specs.declared.mark.Mark.TheVariants as mark
use Rattle.tokens.specs.Lexing.{Tok, name, word, number, sign, end, Lexed, got, bad, done, lexed, value_of}

-- a token and its place, or a fault of the text's bytes
pub data Item : Type 0 where
  at : Tok → ℕ → Item
  flaw : Fault → Item

-- the items that begin with what stands next; after a fault there are no more
abbrev pub more : ℕ → Lexed → List Item
more n done = []
more n (bad f) = flaw f ∷ []
more zero (got t p r q) = at t p ∷ []
more (suc n) (got t p r q) = at t p ∷ more n (lexed r q)

-- the items of the bytes that begin at a place
unfoldable pub items : List ℕ → ℕ → List Item
items bs p = more (length bs) (lexed bs p)

abbrev pub view : Token → Tok
view (token.Name s) = name s.now
view (token.Word w s) = word w
view (token.Number s) = number s.now
view (token.Sign s) = sign s
view token.End = end

-- of a token at the front of s and how long it is
abbrev pub cut_at : Result (Token × ℕ) Fault → List ℕ → ℕ → Lexed
cut_at (result.Ok t) s p = got (view t.0) p (drop t.1 s) (p + t.1)
cut_at (result.Err f) s p = bad f

-- with what stands next before them; at the end of a text nothing does
abbrev pub ahead_of : Option (Result Spot Fault) → List Item → List Item
ahead_of (option.Some (result.Ok s)) us = at (view s.token) s.place ∷ us
ahead_of (option.Some (result.Err f)) us = flaw f ∷ us
ahead_of option.None us = []

-- the items that a reader has not taken yet
unfoldable pub ahead : Tokens → List Item
ahead t = ahead_of t.next (items t.rest.bytes.now t.rest.place)

abbrev pub left_of : Option (Result Spot Fault) → ℕ → ℕ
left_of (option.Some s) n = suc n
left_of option.None n = 0

-- how many bytes are not taken yet, the next token counted as one
unfoldable pub bytes_left : Tokens → ℕ
bytes_left t = left_of t.next (length t.rest.bytes.now)

-- the first of the items; at the end of a text of that length, its end
abbrev pub first : ℕ → List Item → Item
first len [] = at end len
first len (i ∷ us) = i

abbrev pub seen : Result Spot Fault → Item
seen (result.Ok s) = at (view s.token) s.place
seen (result.Err f) = flaw f

abbrev pub place_of : Item → ℕ
place_of (at t p) = p
place_of (flaw f) = (entry f).place

-- why an item is refused where it cannot stand
abbrev pub refusal : Item → Fault
refusal (at t p) = NotAllowed p
refusal (flaw f) = f

-- the token of an item
abbrev pub token_of : Item → Option Tok
token_of (at t p) = option.Some t
token_of (flaw f) = option.None

-- the bytes of a name; the lexer lets at most 12 through
abbrev pub name_in : Tok → Option (List ℕ)
name_in (name s) = option.Some (take 12 s)
name_in (word w) = option.None
name_in (number s) = option.None
name_in (sign s) = option.None
name_in end = option.None

abbrev pub name_of : Item → Option (List ℕ)
name_of (at t p) = name_in t
name_of (flaw f) = option.None

abbrev pub number_in : Tok → Option ℕ
number_in (name s) = option.None
number_in (word w) = option.None
number_in (number s) = option.Some (value_of s)
number_in (sign s) = option.None
number_in end = option.None

abbrev pub number_of : Item → Option ℕ
number_of (at t p) = number_in t
number_of (flaw f) = option.None

-- the mark that a token is, where it is one
abbrev pub mark_of_sign : Sign → Option Mark
mark_of_sign signs.Semicolon = option.Some mark.Semicolon
mark_of_sign signs.Colon = option.Some mark.Colon
mark_of_sign signs.OpenBrace = option.Some mark.OpenBrace
mark_of_sign signs.CloseBrace = option.Some mark.CloseBrace
mark_of_sign signs.OpenParen = option.Some mark.OpenParen
mark_of_sign signs.CloseParen = option.Some mark.CloseParen
mark_of_sign signs.OpenBracket = option.None
mark_of_sign signs.CloseBracket = option.Some mark.CloseBracket
mark_of_sign signs.Bar = option.Some mark.Bar
mark_of_sign signs.Equal = option.None
mark_of_sign signs.Prime = option.Some mark.Prime
mark_of_sign (signs.Turn t) = option.None
mark_of_sign (signs.Operator o) = option.None

abbrev pub mark_of_word : Word → Option Mark
mark_of_word words.Atoms = option.Some mark.Atoms
mark_of_word words.Rel = option.None
mark_of_word words.Var = option.None
mark_of_word words.Horizon = option.Some mark.Horizon
mark_of_word words.Formula = option.Some mark.Formula
mark_of_word (words.Prefix p) = option.None
mark_of_word (words.Infix i) = option.None
mark_of_word words.All = option.None
mark_of_word words.Some = option.None
mark_of_word words.No = option.None
mark_of_word words.In = option.None
mark_of_word (words.Constant c) = option.None

abbrev pub mark_in : Tok → Option Mark
mark_in (name s) = option.None
mark_in (word w) = mark_of_word w
mark_in (number s) = option.None
mark_in (sign s) = mark_of_sign s
mark_in end = option.Some mark.End

abbrev pub mark_of : Item → Option Mark
mark_of (at t p) = mark_in t
mark_of (flaw f) = option.None

abbrev pub code : Mark → ℕ
code mark.Semicolon = 0
code mark.Colon = 1
code mark.OpenBrace = 2
code mark.CloseBrace = 3
code mark.OpenParen = 4
code mark.CloseParen = 5
code mark.CloseBracket = 6
code mark.Bar = 7
code mark.Prime = 8
code mark.Atoms = 9
code mark.Horizon = 10
code mark.Formula = 11
code mark.End = 12

abbrev pub same_mark : Mark → Option Mark → Bool
same_mark m option.None = false
same_mark m (option.Some k) = code m == code k

abbrev pub is_mark : Mark → Item → Bool
is_mark m i = same_mark m (mark_of i)
