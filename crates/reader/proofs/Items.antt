-- What a token of one kind is not.
use Rattle.std.specs.Prelude.{◌==◌}
use Rattle.std.proofs.Common.{◌≡◌, ℕ, true, false, List, Some, None, Option, refl, sym, ap, ◌∙◌, eqb-true}
use Rattle.tokens.specs.declared.mark.Mark.{Mark}
use Rattle.tokens.specs.declared.mark.Mark.TheVariants as mark
use Rattle.tokens.specs.declared.token.Word.TheVariants as words
use Rattle.tokens.specs.declared.token.Sign.TheVariants as signs
use Rattle.tokens.specs.Lexing.{name, word, number, sign, end}
use Rattle.tokens.specs.Items.{Item, at, flaw, name_of, mark_of, code, same_mark, is_mark}
use Rattle.formulas.specs.declared.start.Start.TheVariants as start
use Rattle.formulas.specs.Starts.{h_name, head_of, operator_of, start_of, infix_of, comparison_of}
use Rattle.declaring.specs.Declaring.{mutability_of}
use Rattle.reader.specs.Grammar.{Is, IsName, IsConstant, IsTurn, OpensBracket, IsOperator, IsInfix, IsComparison}

-- a mark is no other mark
by_mark : (m k : Mark) (o : Option Mark) → same_mark m o ≡ true → (code k == code m) ≡ false → same_mark k o ≡ false
by_mark m k None e d = absurd cc
by_mark m k (Some j) e d = ap (λ n. code k == n) (sym (eqb-true _ _ e)) ∙ d

pub other_mark : (m k : Mark) (i : Item) → Is m i → (code k == code m) ≡ false → is_mark k i ≡ false
other_mark m k i e d = by_mark m k (mark_of i) e d

pub mark_no_name : (i : Item) (m : Mark) → Is m i → name_of i ≡ None
mark_no_name (at (name s) p) m e = absurd cc
mark_no_name (at (word s) p) m e = refl
mark_no_name (at (number s) p) m e = refl
mark_no_name (at (sign s) p) m e = refl
mark_no_name (at end p) m e = refl
mark_no_name (flaw s) m e = refl

-- a name
pub name_no_mark : (i : Item) (m : Mark) → IsName i → is_mark m i ≡ false
name_no_mark (at (name s) p) m e = refl
name_no_mark (at (word s) p) m e = absurd (let z = e.1 in cc)
name_no_mark (at (number s) p) m e = absurd (let z = e.1 in cc)
name_no_mark (at (sign s) p) m e = absurd (let z = e.1 in cc)
name_no_mark (at end p) m e = absurd (let z = e.1 in cc)
name_no_mark (flaw s) m e = absurd (let z = e.1 in cc)

pub name_head : (i : Item) (e : IsName i) → (x : List ℕ) × (head_of i ≡ Some (h_name x))
unfolding head_of
name_head (at (name s) p) e = (_, refl)
name_head (at (word s) p) e = absurd (let z = e.1 in cc)
name_head (at (number s) p) e = absurd (let z = e.1 in cc)
name_head (at (sign s) p) e = absurd (let z = e.1 in cc)
name_head (at end p) e = absurd (let z = e.1 in cc)
name_head (flaw s) e = absurd (let z = e.1 in cc)

pub name_start : (i : Item) → IsName i → start_of i ≡ start.Expression
unfolding start_of
name_start (at (name s) p) e = refl
name_start (at (word s) p) e = absurd (let z = e.1 in cc)
name_start (at (number s) p) e = absurd (let z = e.1 in cc)
name_start (at (sign s) p) e = absurd (let z = e.1 in cc)
name_start (at end p) e = absurd (let z = e.1 in cc)
name_start (flaw s) e = absurd (let z = e.1 in cc)

pub constant_no_name : (i : Item) → IsConstant i → name_of i ≡ None
unfolding head_of
constant_no_name (at (name s) p) e = absurd (let z = e.1 in cc)
constant_no_name (at (word words.Atoms) p) e = absurd (let z = e.1 in cc)
constant_no_name (at (word words.Rel) p) e = absurd (let z = e.1 in cc)
constant_no_name (at (word words.Var) p) e = absurd (let z = e.1 in cc)
constant_no_name (at (word words.Horizon) p) e = absurd (let z = e.1 in cc)
constant_no_name (at (word words.Formula) p) e = absurd (let z = e.1 in cc)
constant_no_name (at (word (words.Prefix q)) p) e = absurd (let z = e.1 in cc)
constant_no_name (at (word (words.Infix q)) p) e = absurd (let z = e.1 in cc)
constant_no_name (at (word words.All) p) e = absurd (let z = e.1 in cc)
constant_no_name (at (word words.Some) p) e = absurd (let z = e.1 in cc)
constant_no_name (at (word words.No) p) e = absurd (let z = e.1 in cc)
constant_no_name (at (word words.In) p) e = absurd (let z = e.1 in cc)
constant_no_name (at (word (words.Constant q)) p) e = refl
constant_no_name (at (number s) p) e = absurd (let z = e.1 in cc)
constant_no_name (at (sign signs.Semicolon) p) e = absurd (let z = e.1 in cc)
constant_no_name (at (sign signs.Colon) p) e = absurd (let z = e.1 in cc)
constant_no_name (at (sign signs.OpenBrace) p) e = absurd (let z = e.1 in cc)
constant_no_name (at (sign signs.CloseBrace) p) e = absurd (let z = e.1 in cc)
constant_no_name (at (sign signs.OpenParen) p) e = absurd (let z = e.1 in cc)
constant_no_name (at (sign signs.CloseParen) p) e = absurd (let z = e.1 in cc)
constant_no_name (at (sign signs.OpenBracket) p) e = absurd (let z = e.1 in cc)
constant_no_name (at (sign signs.CloseBracket) p) e = absurd (let z = e.1 in cc)
constant_no_name (at (sign signs.Bar) p) e = absurd (let z = e.1 in cc)
constant_no_name (at (sign signs.Equal) p) e = absurd (let z = e.1 in cc)
constant_no_name (at (sign signs.Prime) p) e = absurd (let z = e.1 in cc)
constant_no_name (at (sign (signs.Turn q)) p) e = absurd (let z = e.1 in cc)
constant_no_name (at (sign (signs.Operator q)) p) e = absurd (let z = e.1 in cc)
constant_no_name (at end p) e = absurd (let z = e.1 in cc)
constant_no_name (flaw s) e = absurd (let z = e.1 in cc)

pub constant_start : (i : Item) → IsConstant i → start_of i ≡ start.Expression
unfolding head_of start_of
constant_start (at (name s) p) e = absurd (let z = e.1 in cc)
constant_start (at (word words.Atoms) p) e = absurd (let z = e.1 in cc)
constant_start (at (word words.Rel) p) e = absurd (let z = e.1 in cc)
constant_start (at (word words.Var) p) e = absurd (let z = e.1 in cc)
constant_start (at (word words.Horizon) p) e = absurd (let z = e.1 in cc)
constant_start (at (word words.Formula) p) e = absurd (let z = e.1 in cc)
constant_start (at (word (words.Prefix q)) p) e = absurd (let z = e.1 in cc)
constant_start (at (word (words.Infix q)) p) e = absurd (let z = e.1 in cc)
constant_start (at (word words.All) p) e = absurd (let z = e.1 in cc)
constant_start (at (word words.Some) p) e = absurd (let z = e.1 in cc)
constant_start (at (word words.No) p) e = absurd (let z = e.1 in cc)
constant_start (at (word words.In) p) e = absurd (let z = e.1 in cc)
constant_start (at (word (words.Constant q)) p) e = refl
constant_start (at (number s) p) e = absurd (let z = e.1 in cc)
constant_start (at (sign signs.Semicolon) p) e = absurd (let z = e.1 in cc)
constant_start (at (sign signs.Colon) p) e = absurd (let z = e.1 in cc)
constant_start (at (sign signs.OpenBrace) p) e = absurd (let z = e.1 in cc)
constant_start (at (sign signs.CloseBrace) p) e = absurd (let z = e.1 in cc)
constant_start (at (sign signs.OpenParen) p) e = absurd (let z = e.1 in cc)
constant_start (at (sign signs.CloseParen) p) e = absurd (let z = e.1 in cc)
constant_start (at (sign signs.OpenBracket) p) e = absurd (let z = e.1 in cc)
constant_start (at (sign signs.CloseBracket) p) e = absurd (let z = e.1 in cc)
constant_start (at (sign signs.Bar) p) e = absurd (let z = e.1 in cc)
constant_start (at (sign signs.Equal) p) e = absurd (let z = e.1 in cc)
constant_start (at (sign signs.Prime) p) e = absurd (let z = e.1 in cc)
constant_start (at (sign (signs.Turn q)) p) e = absurd (let z = e.1 in cc)
constant_start (at (sign (signs.Operator q)) p) e = absurd (let z = e.1 in cc)
constant_start (at end p) e = absurd (let z = e.1 in cc)
constant_start (flaw s) e = absurd (let z = e.1 in cc)

pub turn_no_name : (i : Item) → IsTurn i → name_of i ≡ None
unfolding head_of
turn_no_name (at (name s) p) e = absurd (let z = e.1 in cc)
turn_no_name (at (word words.Atoms) p) e = absurd (let z = e.1 in cc)
turn_no_name (at (word words.Rel) p) e = absurd (let z = e.1 in cc)
turn_no_name (at (word words.Var) p) e = absurd (let z = e.1 in cc)
turn_no_name (at (word words.Horizon) p) e = absurd (let z = e.1 in cc)
turn_no_name (at (word words.Formula) p) e = absurd (let z = e.1 in cc)
turn_no_name (at (word (words.Prefix q)) p) e = absurd (let z = e.1 in cc)
turn_no_name (at (word (words.Infix q)) p) e = absurd (let z = e.1 in cc)
turn_no_name (at (word words.All) p) e = absurd (let z = e.1 in cc)
turn_no_name (at (word words.Some) p) e = absurd (let z = e.1 in cc)
turn_no_name (at (word words.No) p) e = absurd (let z = e.1 in cc)
turn_no_name (at (word words.In) p) e = absurd (let z = e.1 in cc)
turn_no_name (at (word (words.Constant q)) p) e = absurd (let z = e.1 in cc)
turn_no_name (at (number s) p) e = absurd (let z = e.1 in cc)
turn_no_name (at (sign signs.Semicolon) p) e = absurd (let z = e.1 in cc)
turn_no_name (at (sign signs.Colon) p) e = absurd (let z = e.1 in cc)
turn_no_name (at (sign signs.OpenBrace) p) e = absurd (let z = e.1 in cc)
turn_no_name (at (sign signs.CloseBrace) p) e = absurd (let z = e.1 in cc)
turn_no_name (at (sign signs.OpenParen) p) e = absurd (let z = e.1 in cc)
turn_no_name (at (sign signs.CloseParen) p) e = absurd (let z = e.1 in cc)
turn_no_name (at (sign signs.OpenBracket) p) e = absurd (let z = e.1 in cc)
turn_no_name (at (sign signs.CloseBracket) p) e = absurd (let z = e.1 in cc)
turn_no_name (at (sign signs.Bar) p) e = absurd (let z = e.1 in cc)
turn_no_name (at (sign signs.Equal) p) e = absurd (let z = e.1 in cc)
turn_no_name (at (sign signs.Prime) p) e = absurd (let z = e.1 in cc)
turn_no_name (at (sign (signs.Turn q)) p) e = refl
turn_no_name (at (sign (signs.Operator q)) p) e = absurd (let z = e.1 in cc)
turn_no_name (at end p) e = absurd (let z = e.1 in cc)
turn_no_name (flaw s) e = absurd (let z = e.1 in cc)

pub turn_start : (i : Item) → IsTurn i → start_of i ≡ start.Expression
unfolding head_of start_of
turn_start (at (name s) p) e = absurd (let z = e.1 in cc)
turn_start (at (word words.Atoms) p) e = absurd (let z = e.1 in cc)
turn_start (at (word words.Rel) p) e = absurd (let z = e.1 in cc)
turn_start (at (word words.Var) p) e = absurd (let z = e.1 in cc)
turn_start (at (word words.Horizon) p) e = absurd (let z = e.1 in cc)
turn_start (at (word words.Formula) p) e = absurd (let z = e.1 in cc)
turn_start (at (word (words.Prefix q)) p) e = absurd (let z = e.1 in cc)
turn_start (at (word (words.Infix q)) p) e = absurd (let z = e.1 in cc)
turn_start (at (word words.All) p) e = absurd (let z = e.1 in cc)
turn_start (at (word words.Some) p) e = absurd (let z = e.1 in cc)
turn_start (at (word words.No) p) e = absurd (let z = e.1 in cc)
turn_start (at (word words.In) p) e = absurd (let z = e.1 in cc)
turn_start (at (word (words.Constant q)) p) e = absurd (let z = e.1 in cc)
turn_start (at (number s) p) e = absurd (let z = e.1 in cc)
turn_start (at (sign signs.Semicolon) p) e = absurd (let z = e.1 in cc)
turn_start (at (sign signs.Colon) p) e = absurd (let z = e.1 in cc)
turn_start (at (sign signs.OpenBrace) p) e = absurd (let z = e.1 in cc)
turn_start (at (sign signs.CloseBrace) p) e = absurd (let z = e.1 in cc)
turn_start (at (sign signs.OpenParen) p) e = absurd (let z = e.1 in cc)
turn_start (at (sign signs.CloseParen) p) e = absurd (let z = e.1 in cc)
turn_start (at (sign signs.OpenBracket) p) e = absurd (let z = e.1 in cc)
turn_start (at (sign signs.CloseBracket) p) e = absurd (let z = e.1 in cc)
turn_start (at (sign signs.Bar) p) e = absurd (let z = e.1 in cc)
turn_start (at (sign signs.Equal) p) e = absurd (let z = e.1 in cc)
turn_start (at (sign signs.Prime) p) e = absurd (let z = e.1 in cc)
turn_start (at (sign (signs.Turn q)) p) e = refl
turn_start (at (sign (signs.Operator q)) p) e = absurd (let z = e.1 in cc)
turn_start (at end p) e = absurd (let z = e.1 in cc)
turn_start (flaw s) e = absurd (let z = e.1 in cc)

pub bracket_no_name : (i : Item) → OpensBracket i → name_of i ≡ None
unfolding head_of
bracket_no_name (at (name s) p) e = absurd cc
bracket_no_name (at (word words.Atoms) p) e = absurd cc
bracket_no_name (at (word words.Rel) p) e = absurd cc
bracket_no_name (at (word words.Var) p) e = absurd cc
bracket_no_name (at (word words.Horizon) p) e = absurd cc
bracket_no_name (at (word words.Formula) p) e = absurd cc
bracket_no_name (at (word (words.Prefix q)) p) e = absurd cc
bracket_no_name (at (word (words.Infix q)) p) e = absurd cc
bracket_no_name (at (word words.All) p) e = absurd cc
bracket_no_name (at (word words.Some) p) e = absurd cc
bracket_no_name (at (word words.No) p) e = absurd cc
bracket_no_name (at (word words.In) p) e = absurd cc
bracket_no_name (at (word (words.Constant q)) p) e = absurd cc
bracket_no_name (at (number s) p) e = absurd cc
bracket_no_name (at (sign signs.Semicolon) p) e = absurd cc
bracket_no_name (at (sign signs.Colon) p) e = absurd cc
bracket_no_name (at (sign signs.OpenBrace) p) e = absurd cc
bracket_no_name (at (sign signs.CloseBrace) p) e = absurd cc
bracket_no_name (at (sign signs.OpenParen) p) e = absurd cc
bracket_no_name (at (sign signs.CloseParen) p) e = absurd cc
bracket_no_name (at (sign signs.OpenBracket) p) e = refl
bracket_no_name (at (sign signs.CloseBracket) p) e = absurd cc
bracket_no_name (at (sign signs.Bar) p) e = absurd cc
bracket_no_name (at (sign signs.Equal) p) e = absurd cc
bracket_no_name (at (sign signs.Prime) p) e = absurd cc
bracket_no_name (at (sign (signs.Turn q)) p) e = absurd cc
bracket_no_name (at (sign (signs.Operator q)) p) e = absurd cc
bracket_no_name (at end p) e = absurd cc
bracket_no_name (flaw s) e = absurd cc

pub bracket_start : (i : Item) → OpensBracket i → start_of i ≡ start.Expression
unfolding head_of start_of
bracket_start (at (name s) p) e = absurd cc
bracket_start (at (word words.Atoms) p) e = absurd cc
bracket_start (at (word words.Rel) p) e = absurd cc
bracket_start (at (word words.Var) p) e = absurd cc
bracket_start (at (word words.Horizon) p) e = absurd cc
bracket_start (at (word words.Formula) p) e = absurd cc
bracket_start (at (word (words.Prefix q)) p) e = absurd cc
bracket_start (at (word (words.Infix q)) p) e = absurd cc
bracket_start (at (word words.All) p) e = absurd cc
bracket_start (at (word words.Some) p) e = absurd cc
bracket_start (at (word words.No) p) e = absurd cc
bracket_start (at (word words.In) p) e = absurd cc
bracket_start (at (word (words.Constant q)) p) e = absurd cc
bracket_start (at (number s) p) e = absurd cc
bracket_start (at (sign signs.Semicolon) p) e = absurd cc
bracket_start (at (sign signs.Colon) p) e = absurd cc
bracket_start (at (sign signs.OpenBrace) p) e = absurd cc
bracket_start (at (sign signs.CloseBrace) p) e = absurd cc
bracket_start (at (sign signs.OpenParen) p) e = absurd cc
bracket_start (at (sign signs.CloseParen) p) e = absurd cc
bracket_start (at (sign signs.OpenBracket) p) e = refl
bracket_start (at (sign signs.CloseBracket) p) e = absurd cc
bracket_start (at (sign signs.Bar) p) e = absurd cc
bracket_start (at (sign signs.Equal) p) e = absurd cc
bracket_start (at (sign signs.Prime) p) e = absurd cc
bracket_start (at (sign (signs.Turn q)) p) e = absurd cc
bracket_start (at (sign (signs.Operator q)) p) e = absurd cc
bracket_start (at end p) e = absurd cc
bracket_start (flaw s) e = absurd cc

pub infix_no_mark : (i : Item) (m : Mark) → IsInfix i → is_mark m i ≡ false
unfolding infix_of
infix_no_mark (at (name s) p) m e = absurd (let z = e.1 in cc)
infix_no_mark (at (word words.Atoms) p) m e = absurd (let z = e.1 in cc)
infix_no_mark (at (word words.Rel) p) m e = absurd (let z = e.1 in cc)
infix_no_mark (at (word words.Var) p) m e = absurd (let z = e.1 in cc)
infix_no_mark (at (word words.Horizon) p) m e = absurd (let z = e.1 in cc)
infix_no_mark (at (word words.Formula) p) m e = absurd (let z = e.1 in cc)
infix_no_mark (at (word (words.Prefix q)) p) m e = absurd (let z = e.1 in cc)
infix_no_mark (at (word (words.Infix q)) p) m e = refl
infix_no_mark (at (word words.All) p) m e = absurd (let z = e.1 in cc)
infix_no_mark (at (word words.Some) p) m e = absurd (let z = e.1 in cc)
infix_no_mark (at (word words.No) p) m e = absurd (let z = e.1 in cc)
infix_no_mark (at (word words.In) p) m e = absurd (let z = e.1 in cc)
infix_no_mark (at (word (words.Constant q)) p) m e = absurd (let z = e.1 in cc)
infix_no_mark (at (number s) p) m e = absurd (let z = e.1 in cc)
infix_no_mark (at (sign s) p) m e = absurd (let z = e.1 in cc)
infix_no_mark (at end p) m e = absurd (let z = e.1 in cc)
infix_no_mark (flaw s) m e = absurd (let z = e.1 in cc)

pub operator_no_mark : (i : Item) (m : Mark) → IsOperator i → is_mark m i ≡ false
unfolding operator_of
operator_no_mark (at (name s) p) m e = absurd (let z = e.1 in cc)
operator_no_mark (at (word s) p) m e = absurd (let z = e.1 in cc)
operator_no_mark (at (number s) p) m e = absurd (let z = e.1 in cc)
operator_no_mark (at (sign signs.Semicolon) p) m e = absurd (let z = e.1 in cc)
operator_no_mark (at (sign signs.Colon) p) m e = absurd (let z = e.1 in cc)
operator_no_mark (at (sign signs.OpenBrace) p) m e = absurd (let z = e.1 in cc)
operator_no_mark (at (sign signs.CloseBrace) p) m e = absurd (let z = e.1 in cc)
operator_no_mark (at (sign signs.OpenParen) p) m e = absurd (let z = e.1 in cc)
operator_no_mark (at (sign signs.CloseParen) p) m e = absurd (let z = e.1 in cc)
operator_no_mark (at (sign signs.OpenBracket) p) m e = absurd (let z = e.1 in cc)
operator_no_mark (at (sign signs.CloseBracket) p) m e = absurd (let z = e.1 in cc)
operator_no_mark (at (sign signs.Bar) p) m e = absurd (let z = e.1 in cc)
operator_no_mark (at (sign signs.Equal) p) m e = absurd (let z = e.1 in cc)
operator_no_mark (at (sign signs.Prime) p) m e = absurd (let z = e.1 in cc)
operator_no_mark (at (sign (signs.Turn q)) p) m e = absurd (let z = e.1 in cc)
operator_no_mark (at (sign (signs.Operator q)) p) m e = refl
operator_no_mark (at end p) m e = absurd (let z = e.1 in cc)
operator_no_mark (flaw s) m e = absurd (let z = e.1 in cc)

pub comparison_no_mark : (i : Item) (m : Mark) → IsComparison i → is_mark m i ≡ false
unfolding comparison_of
comparison_no_mark (at (name s) p) m e = absurd (let z = e.1 in cc)
comparison_no_mark (at (word words.Atoms) p) m e = absurd (let z = e.1 in cc)
comparison_no_mark (at (word words.Rel) p) m e = absurd (let z = e.1 in cc)
comparison_no_mark (at (word words.Var) p) m e = absurd (let z = e.1 in cc)
comparison_no_mark (at (word words.Horizon) p) m e = absurd (let z = e.1 in cc)
comparison_no_mark (at (word words.Formula) p) m e = absurd (let z = e.1 in cc)
comparison_no_mark (at (word (words.Prefix q)) p) m e = absurd (let z = e.1 in cc)
comparison_no_mark (at (word (words.Infix q)) p) m e = absurd (let z = e.1 in cc)
comparison_no_mark (at (word words.All) p) m e = absurd (let z = e.1 in cc)
comparison_no_mark (at (word words.Some) p) m e = absurd (let z = e.1 in cc)
comparison_no_mark (at (word words.No) p) m e = absurd (let z = e.1 in cc)
comparison_no_mark (at (word words.In) p) m e = refl
comparison_no_mark (at (word (words.Constant q)) p) m e = absurd (let z = e.1 in cc)
comparison_no_mark (at (number s) p) m e = absurd (let z = e.1 in cc)
comparison_no_mark (at (sign signs.Semicolon) p) m e = absurd (let z = e.1 in cc)
comparison_no_mark (at (sign signs.Colon) p) m e = absurd (let z = e.1 in cc)
comparison_no_mark (at (sign signs.OpenBrace) p) m e = absurd (let z = e.1 in cc)
comparison_no_mark (at (sign signs.CloseBrace) p) m e = absurd (let z = e.1 in cc)
comparison_no_mark (at (sign signs.OpenParen) p) m e = absurd (let z = e.1 in cc)
comparison_no_mark (at (sign signs.CloseParen) p) m e = absurd (let z = e.1 in cc)
comparison_no_mark (at (sign signs.OpenBracket) p) m e = absurd (let z = e.1 in cc)
comparison_no_mark (at (sign signs.CloseBracket) p) m e = absurd (let z = e.1 in cc)
comparison_no_mark (at (sign signs.Bar) p) m e = absurd (let z = e.1 in cc)
comparison_no_mark (at (sign signs.Equal) p) m e = refl
comparison_no_mark (at (sign signs.Prime) p) m e = absurd (let z = e.1 in cc)
comparison_no_mark (at (sign (signs.Turn q)) p) m e = absurd (let z = e.1 in cc)
comparison_no_mark (at (sign (signs.Operator q)) p) m e = absurd (let z = e.1 in cc)
comparison_no_mark (at end p) m e = absurd (let z = e.1 in cc)
comparison_no_mark (flaw s) m e = absurd (let z = e.1 in cc)

pub horizon_no_mutability : (i : Item) → Is mark.Horizon i → mutability_of i ≡ None
unfolding mutability_of
horizon_no_mutability (at (name s) p) e = refl
horizon_no_mutability (at (word words.Atoms) p) e = absurd cc
horizon_no_mutability (at (word words.Rel) p) e = absurd cc
horizon_no_mutability (at (word words.Var) p) e = absurd cc
horizon_no_mutability (at (word words.Horizon) p) e = refl
horizon_no_mutability (at (word words.Formula) p) e = absurd cc
horizon_no_mutability (at (word (words.Prefix q)) p) e = absurd cc
horizon_no_mutability (at (word (words.Infix q)) p) e = absurd cc
horizon_no_mutability (at (word words.All) p) e = absurd cc
horizon_no_mutability (at (word words.Some) p) e = absurd cc
horizon_no_mutability (at (word words.No) p) e = absurd cc
horizon_no_mutability (at (word words.In) p) e = absurd cc
horizon_no_mutability (at (word (words.Constant q)) p) e = absurd cc
horizon_no_mutability (at (number s) p) e = refl
horizon_no_mutability (at (sign s) p) e = refl
horizon_no_mutability (at end p) e = refl
horizon_no_mutability (flaw s) e = refl
