-- What the bytes of a text are cut into. Assumes nothing.
use Rattle.std.specs.Prelude.{ℕ, ◌+◌, ◌-◌, ◌*◌, cond, List, [], ◌∷◌, map, take, drop, Option, ◌==◌, nat_le}
use Rattle.std.specs.List.{slice_get, prefix_len}
use Rattle.std.specs.declared.option.Option.TheVariants as option
use Rattle.faults.specs.declared.Fault.{Fault}
use Rattle.faults.specs.declared.Fault.TheVariants.{NoToken, TokenTooLong}
use Rattle.names.specs.Lookups.{index_of}
use Rattle.problem.specs.declared.node.Operator.TheVariants as operator
use Rattle.tokens.specs.declared.token.Word.{Word}
use Rattle.tokens.specs.declared.token.Sign.{Sign}
use Rattle.tokens.specs.declared.token.Sign.TheVariants as signs
use Rattle.tokens.specs.Classes.{space, letter, digit, alnum, sign_of, spelt, reserved}

-- a token, by its bytes and not by where they are lent from
pub data Tok : Type 0 where
  name : List ℕ → Tok
  word : Word → Tok
  number : List ℕ → Tok
  sign : Sign → Tok
  end : Tok

-- what stands next in a text: a token, its place, what is left and the place of that; a fault; or nothing
pub data Lexed : Type 0 where
  got : Tok → ℕ → List ℕ → ℕ → Lexed
  bad : Fault → Lexed
  done : Lexed

-- the reserved word that some bytes spell
abbrev pub at_index : Option ℕ → Option Word
at_index option.None = option.None
at_index (option.Some i) = slice_get reserved i

unfoldable pub word_of : List ℕ → Option Word
word_of s = at_index (index_of s (map spelt reserved))

abbrev pub named : List ℕ → Option Word → Tok
named s (option.Some w) = word w
named s option.None = name s

-- t, made of the n bytes at the front, where that is not too many
abbrev pub short : ℕ → ℕ → List ℕ → ℕ → Tok → Lexed
short n most s p t = cond (nat_le n most) (got t p (drop n s) (p + n)) (bad (TokenTooLong p))

-- what begins with '-'
abbrev pub dash : List ℕ → ℕ → Lexed
dash [] p = got (sign (signs.Operator operator.Difference)) p [] (p + 1)
dash (b ∷ bs) p =
    cond (b == 62) (got (sign (signs.Operator operator.Product)) p bs (p + 2))
    (got (sign (signs.Operator operator.Difference)) p (b ∷ bs) (p + 1))

abbrev pub signed : Option Sign → List ℕ → ℕ → Lexed
signed option.None bs p = bad (NoToken p)
signed (option.Some s) bs p = got (sign s) p bs (p + 1)

-- a name or a reserved word, of all the letters and digits at the front
abbrev pub lettered : List ℕ → ℕ → Lexed
lettered s p = let n = prefix_len alnum s in let w = take n s in short n 12 s p (named w (word_of w))

-- a number, of all the digits at the front
abbrev pub numbered : List ℕ → ℕ → Lexed
numbered s p = let n = prefix_len digit s in short n 3 s p (number (take n s))

abbrev pub sign_at : List ℕ → ℕ → Lexed
sign_at [] p = done
sign_at (b ∷ bs) p = cond (b == 45) (dash bs p) (signed (sign_of b) bs p)

-- the token at the front of the bytes, which begin at place p with no separator
abbrev pub token : List ℕ → ℕ → Lexed
token [] p = done
token (b ∷ bs) p = cond (letter b) (lettered (b ∷ bs) p) (cond (digit b) (numbered (b ∷ bs) p) (sign_at (b ∷ bs) p))

-- the token after the separators at the front
abbrev pub lexed : List ℕ → ℕ → Lexed
lexed bs p = let n = prefix_len space bs in token (drop n bs) (p + n)

-- the value of digits
abbrev pub digits_from : ℕ → List ℕ → ℕ
digits_from v [] = v
digits_from v (d ∷ ds) = digits_from (v * 10 + (d - 48)) ds

abbrev pub value_of : List ℕ → ℕ
value_of ds = digits_from 0 ds
