-- What a token begins or is, where a formula or an expression is read, for src/start. Assumes nothing.
use Rattle.std.specs.Prelude.{ℕ, List, take, Some, None, Option}
use Rattle.std.specs.Option.{option_and_then, option_map_or}
use Rattle.problem.specs.declared.node.Infix.{Infix}
use Rattle.problem.specs.declared.node.Operator.{Operator}
use Rattle.problem.specs.declared.node.Comparison.{Comparison}
use Rattle.problem.specs.declared.node.Comparison.TheVariants as comparison
use Rattle.problem.specs.declared.node.Constant.{Constant}
use Rattle.problem.specs.declared.node.Turn.{Turn}
use Rattle.tokens.specs.declared.token.Word.{Word}
use Rattle.tokens.specs.declared.token.Word.TheVariants as words
use Rattle.tokens.specs.declared.token.Sign.{Sign}
use Rattle.tokens.specs.declared.token.Sign.TheVariants as signs
use Rattle.tokens.specs.Lexing.{Tok, name, word, number, sign, end}
use Rattle.tokens.specs.Items.{Item, token_of}
use Rattle.formulas.specs.declared.start.Start.{Start}
use Rattle.formulas.specs.declared.start.Start.TheVariants as start

-- what an expression begins with, where one may begin
pub data Head : Type 0 where
  h_name : List ℕ → Head
  h_constant : Constant → Head
  h_turn : Turn → Head
  h_open : Head

abbrev pub head_of_word : Word → Option Head
head_of_word words.Atoms = None
head_of_word words.Rel = None
head_of_word words.Var = None
head_of_word words.Horizon = None
head_of_word words.Formula = None
head_of_word (words.Prefix p) = None
head_of_word (words.Infix i) = None
head_of_word words.All = None
head_of_word words.Some = None
head_of_word words.No = None
head_of_word words.In = None
head_of_word (words.Constant c) = Some (h_constant c)

abbrev pub head_of_sign : Sign → Option Head
head_of_sign signs.Semicolon = None
head_of_sign signs.Colon = None
head_of_sign signs.OpenBrace = None
head_of_sign signs.CloseBrace = None
head_of_sign signs.OpenParen = None
head_of_sign signs.CloseParen = None
head_of_sign signs.OpenBracket = Some h_open
head_of_sign signs.CloseBracket = None
head_of_sign signs.Bar = None
head_of_sign signs.Equal = None
head_of_sign signs.Prime = None
head_of_sign (signs.Turn t) = Some (h_turn t)
head_of_sign (signs.Operator o) = None

abbrev pub head_in : Tok → Option Head
head_in (name s) = Some (h_name (take 12 s))
head_in (word w) = head_of_word w
head_in (number s) = None
head_in (sign s) = head_of_sign s
head_in end = None

unfoldable pub head_of : Item → Option Head
head_of i = option_and_then head_in (token_of i)

-- what a formula begins with; all else begins an expression
abbrev pub start_of_word : Word → Start
start_of_word words.Atoms = start.Expression
start_of_word words.Rel = start.Expression
start_of_word words.Var = start.Expression
start_of_word words.Horizon = start.Expression
start_of_word words.Formula = start.Expression
start_of_word (words.Prefix p) = start.Prefix p
start_of_word (words.Infix i) = start.Expression
start_of_word words.All = start.All
start_of_word words.Some = start.Some
start_of_word words.No = start.No
start_of_word words.In = start.Expression
start_of_word (words.Constant c) = start.Expression

abbrev pub start_of_sign : Sign → Start
start_of_sign signs.Semicolon = start.Expression
start_of_sign signs.Colon = start.Expression
start_of_sign signs.OpenBrace = start.Expression
start_of_sign signs.CloseBrace = start.Expression
start_of_sign signs.OpenParen = start.Open
start_of_sign signs.CloseParen = start.Expression
start_of_sign signs.OpenBracket = start.Expression
start_of_sign signs.CloseBracket = start.Expression
start_of_sign signs.Bar = start.Expression
start_of_sign signs.Equal = start.Expression
start_of_sign signs.Prime = start.Expression
start_of_sign (signs.Turn t) = start.Expression
start_of_sign (signs.Operator o) = start.Expression

abbrev pub start_in : Tok → Start
start_in (name s) = start.Expression
start_in (word w) = start_of_word w
start_in (number s) = start.Expression
start_in (sign s) = start_of_sign s
start_in end = start.Expression

unfoldable pub start_of : Item → Start
start_of i = option_map_or start_in (token_of i) start.Expression

-- the word between two formulas
abbrev pub infix_of_word : Word → Option Infix
infix_of_word words.Atoms = None
infix_of_word words.Rel = None
infix_of_word words.Var = None
infix_of_word words.Horizon = None
infix_of_word words.Formula = None
infix_of_word (words.Prefix p) = None
infix_of_word (words.Infix i) = Some i
infix_of_word words.All = None
infix_of_word words.Some = None
infix_of_word words.No = None
infix_of_word words.In = None
infix_of_word (words.Constant c) = None

abbrev pub infix_in : Tok → Option Infix
infix_in (name s) = None
infix_in (word w) = infix_of_word w
infix_in (number s) = None
infix_in (sign s) = None
infix_in end = None

unfoldable pub infix_of : Item → Option Infix
infix_of i = option_and_then infix_in (token_of i)

-- the word or sign between two expressions that makes a formula
abbrev pub comparison_of_word : Word → Option Comparison
comparison_of_word words.Atoms = None
comparison_of_word words.Rel = None
comparison_of_word words.Var = None
comparison_of_word words.Horizon = None
comparison_of_word words.Formula = None
comparison_of_word (words.Prefix p) = None
comparison_of_word (words.Infix i) = None
comparison_of_word words.All = None
comparison_of_word words.Some = None
comparison_of_word words.No = None
comparison_of_word words.In = Some comparison.In
comparison_of_word (words.Constant c) = None

abbrev pub comparison_of_sign : Sign → Option Comparison
comparison_of_sign signs.Semicolon = None
comparison_of_sign signs.Colon = None
comparison_of_sign signs.OpenBrace = None
comparison_of_sign signs.CloseBrace = None
comparison_of_sign signs.OpenParen = None
comparison_of_sign signs.CloseParen = None
comparison_of_sign signs.OpenBracket = None
comparison_of_sign signs.CloseBracket = None
comparison_of_sign signs.Bar = None
comparison_of_sign signs.Equal = Some comparison.Equal
comparison_of_sign signs.Prime = None
comparison_of_sign (signs.Turn t) = None
comparison_of_sign (signs.Operator o) = None

abbrev pub comparison_in : Tok → Option Comparison
comparison_in (name s) = None
comparison_in (word w) = comparison_of_word w
comparison_in (number s) = None
comparison_in (sign s) = comparison_of_sign s
comparison_in end = None

unfoldable pub comparison_of : Item → Option Comparison
comparison_of i = option_and_then comparison_in (token_of i)

-- the sign between two expressions that makes an expression
abbrev pub operator_of_sign : Sign → Option Operator
operator_of_sign signs.Semicolon = None
operator_of_sign signs.Colon = None
operator_of_sign signs.OpenBrace = None
operator_of_sign signs.CloseBrace = None
operator_of_sign signs.OpenParen = None
operator_of_sign signs.CloseParen = None
operator_of_sign signs.OpenBracket = None
operator_of_sign signs.CloseBracket = None
operator_of_sign signs.Bar = None
operator_of_sign signs.Equal = None
operator_of_sign signs.Prime = None
operator_of_sign (signs.Turn t) = None
operator_of_sign (signs.Operator o) = Some o

abbrev pub operator_in : Tok → Option Operator
operator_in (name s) = None
operator_in (word w) = None
operator_in (number s) = None
operator_in (sign s) = operator_of_sign s
operator_in end = None

unfoldable pub operator_of : Item → Option Operator
operator_of i = option_and_then operator_in (token_of i)
