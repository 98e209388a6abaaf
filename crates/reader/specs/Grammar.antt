-- The grammar alone: which tokens in a row are a text, whatever names, arities, bounds and limits say. Assumes nothing.
use Rattle.std.specs.Prelude.{◌≡◌, ℕ, true, List, [], ◌∷◌, ◌++◌, Some}
use Rattle.problem.specs.declared.node.Constant.{Constant}
use Rattle.problem.specs.declared.node.Turn.{Turn}
use Rattle.problem.specs.declared.node.Operator.{Operator}
use Rattle.problem.specs.declared.node.Infix.{Infix}
use Rattle.problem.specs.declared.node.Comparison.{Comparison}
use Rattle.problem.specs.declared.node.Prefix.{Prefix}
use Rattle.relations.specs.declared.relation.Mutability.{Mutability}
use Rattle.tokens.specs.declared.mark.Mark.{Mark}
use Rattle.tokens.specs.declared.mark.Mark.TheVariants as mark
use Rattle.tokens.specs.Items.{Item, name_of, number_of, is_mark}
use Rattle.formulas.specs.declared.start.Start.TheVariants as start
use Rattle.formulas.specs.Starts.{h_constant, h_turn, h_open, head_of, operator_of, start_of, infix_of, comparison_of}
use Rattle.declaring.specs.Declaring.{mutability_of}

-- what a token is

abbrev pub Is : Mark → Item → Type 0
Is m i = is_mark m i ≡ true

abbrev pub IsName : Item → Type 0
IsName i = (x : List ℕ) × (name_of i ≡ Some x)

abbrev pub IsNumber : Item → Type 0
IsNumber i = (n : ℕ) × (number_of i ≡ Some n)

abbrev pub IsConstant : Item → Type 0
IsConstant i = (k : Constant) × (head_of i ≡ Some (h_constant k))

abbrev pub IsTurn : Item → Type 0
IsTurn i = (t : Turn) × (head_of i ≡ Some (h_turn t))

abbrev pub OpensBracket : Item → Type 0
OpensBracket i = head_of i ≡ Some h_open

abbrev pub IsOperator : Item → Type 0
IsOperator i = (o : Operator) × (operator_of i ≡ Some o)

abbrev pub IsPrefix : Item → Type 0
IsPrefix i = (x : Prefix) × (start_of i ≡ start.Prefix x)

abbrev pub IsInfix : Item → Type 0
IsInfix i = (x : Infix) × (infix_of i ≡ Some x)

abbrev pub IsComparison : Item → Type 0
IsComparison i = (x : Comparison) × (comparison_of i ≡ Some x)

abbrev pub IsMutability : Item → Type 0
IsMutability i = (m : Mutability) × (mutability_of i ≡ Some m)

-- one token; one row of tokens and another; any number of rows

pub record One (P : Item → Type 0) (us : List Item) : Type 0 where
  pub item : Item
  pub is : us ≡ item ∷ []
  pub holds : P item

pub record Then (G H : List Item → Type 0) (us : List Item) : Type 0 where
  pub left : List Item
  pub right : List Item
  pub is : us ≡ left ++ right
  pub one : G left
  pub two : H right

pub data Many (G : List Item → Type 0) : List Item → Type 0 where
  no_more : Many G []
  one_more : {us vs : List Item} → G us → Many G vs → Many G (us ++ vs)

pub data Perhaps (G : List Item → Type 0) : List Item → Type 0 where
  not_there : Perhaps G []
  there : {us : List Item} → G us → Perhaps G us

-- P and E

mutual
  pub data Part : List Item → Type 0 where
    p_name : {us : List Item} → One IsName us → Part us
    p_constant : {us : List Item} → One IsConstant us → Part us
    p_turned : (i : Item) {us : List Item} → IsTurn i → Part us → Part (i ∷ us)
    p_bracketed : (i j k : Item) {us vs : List Item} → OpensBracket i → Exp us → IsOperator j → Exp vs → Is mark.CloseBracket k → Part (i ∷ (us ++ (j ∷ (vs ++ (k ∷ [])))))

  pub data Exp : List Item → Type 0 where
    e_part : {us vs : List Item} → Part us → Many (One (Is mark.Prime)) vs → Exp (us ++ vs)

-- F

pub data Form : List Item → Type 0 where
  f_prefixed : (i : Item) {us : List Item} → IsPrefix i → Form us → Form (i ∷ us)
  f_joined : (i j k : Item) {us vs : List Item} → start_of i ≡ start.Open → Form us → IsInfix j → Form vs → Is mark.CloseParen k → Form (i ∷ (us ++ (j ∷ (vs ++ (k ∷ [])))))
  f_all : (i j k l : Item) {us vs : List Item} → start_of i ≡ start.All → IsName j → Is mark.Colon k → Exp us → Is mark.Bar l → Form vs → Form (i ∷ (j ∷ (k ∷ (us ++ (l ∷ vs)))))
  f_some : (i j k l : Item) {us vs : List Item} → start_of i ≡ start.Some → IsName j → Is mark.Colon k → Exp us → Is mark.Bar l → Form vs → Form (i ∷ (j ∷ (k ∷ (us ++ (l ∷ vs)))))
  f_is_some : (i : Item) {us : List Item} → start_of i ≡ start.Some → Exp us → Form (i ∷ us)
  f_is_no : (i : Item) {us : List Item} → start_of i ≡ start.No → Exp us → Form (i ∷ us)
  f_compared : (j : Item) {us vs : List Item} → Exp us → IsComparison j → Exp vs → Form (us ++ (j ∷ vs))

-- declarations

abbrev pub Tuple : List Item → Type 0
Tuple = Then (One (Is mark.OpenParen)) (Then (One IsName) (Then (Perhaps (One IsName)) (One (Is mark.CloseParen))))

abbrev pub Set : List Item → Type 0
Set = Then (One (Is mark.OpenBrace)) (Then (Many Tuple) (One (Is mark.CloseBrace)))

abbrev pub Atoms : List Item → Type 0
Atoms = Then (One (Is mark.Atoms)) (Then (One IsName) (Then (Many (One IsName)) (One (Is mark.Semicolon))))

abbrev pub Relation : List Item → Type 0
Relation = Then (One IsMutability) (Then (One IsName) (Then (One (Is mark.Colon)) (Then (One IsNumber) (Then Set (Then Set (One (Is mark.Semicolon)))))))

abbrev pub Horizon : List Item → Type 0
Horizon = Then (One (Is mark.Horizon)) (Then (One IsNumber) (One (Is mark.Semicolon)))

-- a text, its end counted as a token
abbrev pub Text : List Item → Type 0
Text = Then Atoms (Then (Many Relation) (Then Horizon (Then (One (Is mark.Formula)) (Then Form (One (Is mark.End))))))
