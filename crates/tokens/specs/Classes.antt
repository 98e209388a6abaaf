-- Which bytes separate, which are letters, digits and signs, and which words are reserved. Assumes nothing.
use Rattle.std.specs.Prelude.{ℕ, Bool, cond, ◌||◌, List, [], ◌∷◌, codes, Option, ◌==◌}
use Rattle.std.specs.Char.{is_ascii_alphabetic, is_ascii_digit}
use Rattle.std.specs.declared.option.Option.TheVariants as option
use Rattle.problem.specs.declared.node.Prefix.TheVariants as prefix
use Rattle.problem.specs.declared.node.Infix.TheVariants as between
use Rattle.problem.specs.declared.node.Constant.TheVariants as constant
use Rattle.problem.specs.declared.node.Turn.TheVariants as turn
use Rattle.problem.specs.declared.node.Operator.TheVariants as operator
use Rattle.tokens.specs.declared.token.Word.{Word}
use Rattle.tokens.specs.declared.token.Word.TheVariants as words
use Rattle.tokens.specs.declared.token.Sign.{Sign}
use Rattle.tokens.specs.declared.token.Sign.TheVariants as signs

-- space, tab, line feed and carriage return separate
abbrev pub space : ℕ → Bool
space b = b == 32 || (b == 9 || (b == 10 || b == 13))

abbrev pub letter : ℕ → Bool
letter b = is_ascii_alphabetic b

abbrev pub digit : ℕ → Bool
digit b = is_ascii_digit b

abbrev pub alnum : ℕ → Bool
alnum b = letter b || digit b

-- the sign that a byte is alone
abbrev pub sign_of : ℕ → Option Sign
sign_of b =
    cond (b == 59) (option.Some signs.Semicolon)
    (cond (b == 58) (option.Some signs.Colon)
    (cond (b == 123) (option.Some signs.OpenBrace)
    (cond (b == 125) (option.Some signs.CloseBrace)
    (cond (b == 40) (option.Some signs.OpenParen)
    (cond (b == 41) (option.Some signs.CloseParen)
    (cond (b == 91) (option.Some signs.OpenBracket)
    (cond (b == 93) (option.Some signs.CloseBracket)
    (cond (b == 124) (option.Some signs.Bar)
    (cond (b == 61) (option.Some signs.Equal)
    (cond (b == 43) (option.Some (signs.Operator operator.Union))
    (cond (b == 45) (option.Some (signs.Operator operator.Difference))
    (cond (b == 38) (option.Some (signs.Operator operator.Intersection))
    (cond (b == 39) (option.Some signs.Prime)
    (cond (b == 126) (option.Some (signs.Turn turn.Transpose))
    (cond (b == 94) (option.Some (signs.Turn turn.Closure))
    (cond (b == 46) (option.Some (signs.Operator operator.Join)) option.None))))))))))))))))

-- how a reserved word is spelt
abbrev pub spelt : Word → List ℕ
spelt words.Atoms = codes "atoms"
spelt words.Rel = codes "rel"
spelt words.Var = codes "var"
spelt words.Horizon = codes "horizon"
spelt words.Formula = codes "formula"
spelt (words.Prefix prefix.Not) = codes "not"
spelt (words.Prefix prefix.After) = codes "after"
spelt (words.Prefix prefix.Always) = codes "always"
spelt (words.Prefix prefix.Eventually) = codes "eventually"
spelt (words.Prefix prefix.Before) = codes "before"
spelt (words.Prefix prefix.Historically) = codes "historically"
spelt (words.Prefix prefix.Once) = codes "once"
spelt (words.Infix between.And) = codes "and"
spelt (words.Infix between.Or) = codes "or"
spelt (words.Infix between.Implies) = codes "implies"
spelt (words.Infix between.Until) = codes "until"
spelt (words.Infix between.Since) = codes "since"
spelt words.All = codes "all"
spelt words.Some = codes "some"
spelt words.No = codes "no"
spelt words.In = codes "in"
spelt (words.Constant constant.Univ) = codes "univ"
spelt (words.Constant constant.None) = codes "none"
spelt (words.Constant constant.Iden) = codes "iden"

-- all reserved words
abbrev pub reserved : List Word
reserved =
    words.Atoms ∷ words.Rel ∷ words.Var ∷ words.Horizon ∷ words.Formula
    ∷ words.Prefix prefix.Not ∷ words.Prefix prefix.After ∷ words.Prefix prefix.Always ∷ words.Prefix prefix.Eventually
    ∷ words.Prefix prefix.Before ∷ words.Prefix prefix.Historically ∷ words.Prefix prefix.Once
    ∷ words.Infix between.And ∷ words.Infix between.Or ∷ words.Infix between.Implies ∷ words.Infix between.Until ∷ words.Infix between.Since
    ∷ words.All ∷ words.Some ∷ words.No ∷ words.In
    ∷ words.Constant constant.Univ ∷ words.Constant constant.None ∷ words.Constant constant.Iden ∷ []
