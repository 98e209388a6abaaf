-- How a formula is read, one line a production, for src/formula. Assumes nothing.
use Rattle.std.specs.Prelude.{ℕ, zero, suc, cond, List, Some, None, Option}
use Rattle.problem.specs.declared.node.Node.{Node}
use Rattle.problem.specs.declared.node.Node.TheVariants as node
use Rattle.problem.specs.declared.node.Prefix.{Prefix}
use Rattle.problem.specs.declared.node.Test.{Test}
use Rattle.problem.specs.declared.node.Test.TheVariants as test
use Rattle.problem.specs.declared.node.Quantifier.{Quantifier}
use Rattle.problem.specs.declared.node.Quantifier.TheVariants as quantifier
use Rattle.problem.specs.declared.sort.Kind.TheVariants as kind
use Rattle.tokens.specs.declared.mark.Mark.TheVariants as mark
use Rattle.tokens.specs.Items.{place_of, name_of, is_mark}
use Rattle.tokens.specs.Cursors.{Cursor, head, step}
use Rattle.formulas.specs.declared.wish.Wish.{Wish}
use Rattle.formulas.specs.declared.start.Start.{Start}
use Rattle.formulas.specs.declared.start.Start.TheVariants as start
use Rattle.formulas.specs.Bodies.{Body, Open}
use Rattle.formulas.specs.Starts.{start_of, infix_of, comparison_of}
use Rattle.tokens.specs.Outcomes.{refused, take, taking, check, alter}
use Rattle.formulas.specs.Outcomes.{Outcome, ok, then, counted, putting, arity_in, bindable, bound, unbound, opened, closed, closing}
use Rattle.formulas.specs.Expressions.{wish, expression, after_name}

-- a reader of a formula
abbrev pub Formulas : Type 0
Formulas = Cursor → Body → Open → Outcome ℕ

-- a reader of an expression
abbrev pub Expressions : Type 0
Expressions = Option Wish → Cursor → Body → Open → Outcome ℕ

-- a node whose first token is at p, after its last token
abbrev pub settle : Node → ℕ → Cursor → Body → Open → Outcome ℕ
settle n p c b o = alter (putting kind.Formula n p b) c (λ i b₁. ok i c b₁ o)

-- "not" F and its like, after the word
abbrev pub prefixed : Formulas → Prefix → ℕ → Formulas
prefixed f x p c b o = alter (counted p b) c (λ _ b₁. then (f c b₁ o) (λ i c₂ b₂ o₂. settle (node.Prefixed x i) p c₂ b₂ o₂))

-- the end of "(" F op F ")"
abbrev pub close_joined : Node → Formulas
close_joined n c b o = closing (closed o) mark.CloseParen c (λ p c₁ o₁. settle n p c₁ b o₁)

-- "(" F op F ")", after the bracket
abbrev pub joined : Formulas → ℕ → Formulas
joined f p c b o =
    alter (opened p o) c (λ _ o₁.
    then (f c b o₁) (λ x c₂ b₂ o₂.
    taking (infix_of (head c₂)) c₂ (λ s c₃.
    alter (counted (place_of (head c₂)) b₂) c₃ (λ _ b₃.
    then (f c₃ b₃ o₂) (λ y c₄ b₄ o₄.
    close_joined (node.Joined s x y) c₄ b₄ o₄)))))

-- "some" or "no" E, after the word
abbrev pub tested : Expressions → Test → ℕ → Formulas
tested e t p c b o = then (e None c b o) (λ i c₁ b₁ o₁. settle (node.Tested t i) p c₁ b₁ o₁)

-- E "in" E, E "=" E
abbrev pub compared : Expressions → Formulas
compared e c b o =
    then (e None c b o) (λ x c₁ b₁ o₁.
    taking (comparison_of (head c₁)) c₁ (λ s c₂.
    alter (counted (place_of (head c₁)) b₁) c₂ (λ _ b₂.
    then (e (Some (wish (arity_in x b₂) (place_of (head c)))) c₂ b₂ o₁) (λ y c₃ b₃ o₃.
    settle (node.Compared s x y) (place_of (head c)) c₃ b₃ o₃))))

-- the F of a quantifier, in which its variable x is known
abbrev pub scope : Formulas → Quantifier → ℕ → List ℕ → ℕ → ℕ → Formulas
scope f q p x r d c b o =
    alter (bound x r b) c (λ v b₁. then (f c b₁ o) (λ i c₂ b₂ o₂. settle (node.Quantified q v d i) p c₂ (unbound b₂) o₂))

-- E "|" F, after the variable's name x at r and the ":"
abbrev pub range : Expressions → Formulas → Quantifier → ℕ → List ℕ → ℕ → Formulas
range e f q p x r c b o =
    then (e (Some (wish 1 (place_of (head c)))) c b o) (λ d c₂ b₂ o₂.
    take mark.Bar c₂ (λ _ c₃. scope f q p x r d c₃ b₂ o₂))

-- ":" E "|" F, after the variable's name x at r
abbrev pub domain : Expressions → Formulas → Quantifier → ℕ → List ℕ → ℕ → Formulas
domain e f q p x r c b o = check (bindable x r b) c (λ _. take mark.Colon c (λ _ c₁. range e f q p x r c₁ b o))

-- "all" NAME ":" E "|" F, after the word
abbrev pub all : Expressions → Formulas → ℕ → Formulas
all e f p c b o = taking (name_of (head c)) c (λ x c₁. domain e f quantifier.All p x (place_of (head c)) c₁ b o)

-- "some" NAME ":" E "|" F, or "some" E that begins with a NAME, after the name; that it is to be bound shows at the ":"
abbrev pub some_named : Expressions → Formulas → (List ℕ → ℕ → Formulas) → Quantifier → ℕ → List ℕ → ℕ → Formulas
some_named e f a q p x r c b o =
    cond (is_mark mark.Colon (head c)) (check (bindable x r b) (step c) (λ _. range e f q p x r (step c) b o))
    (then (a x r c b o) (λ i c₁ b₁ o₁. settle (node.Tested test.Some i) p c₁ b₁ o₁))

-- "some", after the word
abbrev pub some_by : Option (List ℕ) → Expressions → Formulas → (List ℕ → ℕ → Formulas) → ℕ → Formulas
some_by None e f a p c b o = tested e test.Some p c b o
some_by (Some x) e f a p c b o = some_named e f a quantifier.Some p x (place_of (head c)) (step c) b o

abbrev pub some : Expressions → Formulas → (List ℕ → ℕ → Formulas) → ℕ → Formulas
some e f a p c b o = some_by (name_of (head c)) e f a p c b o

-- F, by what it begins with
abbrev pub beginning : Expressions → (List ℕ → ℕ → Formulas) → Formulas → Start → Formulas
beginning e a f (start.Prefix x) c b o = prefixed f x (place_of (head c)) (step c) b o
beginning e a f start.Open c b o = joined f (place_of (head c)) (step c) b o
beginning e a f start.All c b o = alter (counted (place_of (head c)) b) (step c) (λ _ b₁. all e f (place_of (head c)) (step c) b₁ o)
beginning e a f start.Some c b o = alter (counted (place_of (head c)) b) (step c) (λ _ b₁. some e f a (place_of (head c)) (step c) b₁ o)
beginning e a f start.No c b o = alter (counted (place_of (head c)) b) (step c) (λ _ b₁. tested e test.No (place_of (head c)) (step c) b₁ o)
beginning e a f start.Expression c b o = compared e c b o

abbrev pub begun : Expressions → (List ℕ → ℕ → Formulas) → Formulas → Formulas
begun e a f c b o = beginning e a f (start_of (head c)) c b o

-- F, at most so many levels deep
unfoldable pub formula : ℕ → Formulas
formula zero c b o = refused c
formula (suc n) c b o = begun (expression n) after_name (formula n) c b o

-- deeper than 256 parts and 32 brackets can nest
abbrev pub levels : ℕ
levels = 290
