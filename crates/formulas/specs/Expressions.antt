-- How an expression is read, one line a production, for src/expression. Assumes nothing.
use Rattle.std.specs.Prelude.{ℕ, zero, suc, cond, List, Some, None, Option}
use Rattle.problem.specs.declared.node.Node.{Node}
use Rattle.problem.specs.declared.node.Node.TheVariants as node
use Rattle.problem.specs.declared.node.Turn.{Turn}
use Rattle.problem.specs.declared.node.Constant.{Constant}
use Rattle.problem.specs.declared.sort.Kind.TheVariants as kind
use Rattle.problem.specs.Sorts.{most_parts}
use Rattle.tokens.specs.declared.mark.Mark.TheVariants as mark
use Rattle.tokens.specs.Items.{place_of, is_mark}
use Rattle.tokens.specs.Cursors.{Cursor, head, step}
use Rattle.formulas.specs.declared.wish.Wish.{Wish}
use Rattle.formulas.specs.Bodies.{Body, Open}
use Rattle.formulas.specs.Starts.{Head, h_name, h_constant, h_turn, h_open, head_of, operator_of}
use Rattle.tokens.specs.Outcomes.{refused, taking, check, alter}
use Rattle.formulas.specs.Outcomes.{Outcome, ok, then, asked, counted, putting, leafed, naming, meant_constant, arity_in, opened, closed, closing}

-- a reader of an expression, given what is asked of its arity by a sign right before it, and of the whole
abbrev pub Primaries : Type 0
Primaries = Option Wish → Option Wish → Cursor → Body → Open → Outcome ℕ

-- an arity that is asked for, and the place at which another is refused
abbrev pub wish : ℕ → ℕ → Wish
wish a p = record { arity = a; place = p }

-- what is asked of a whole expression after one of its tokens: nothing yet where a ' sign goes on with it
abbrev pub at_end : Option Wish → Cursor → Option Wish
at_end w c = cond (is_mark mark.Prime (head c)) None w

-- a node, as the last token of an expression
abbrev pub settle : Node → ℕ → Cursor → Body → Open → Outcome ℕ
settle n p c b o = alter (putting kind.Expression n p b) c (λ i b₁. ok i c b₁ o)

-- NAME, after it
abbrev pub named : List ℕ → ℕ → Option Wish → Option Wish → Cursor → Body → Open → Outcome ℕ
named x p u w c b o = alter (naming x p u w b) c (λ i b₁. ok i c b₁ o)

-- "univ", "none" or "iden", after the word
abbrev pub constant : Constant → ℕ → Option Wish → Option Wish → Cursor → Body → Open → Outcome ℕ
constant k p u w c b o = alter (leafed (meant_constant k) p u w b) c (λ i b₁. ok i c b₁ o)

-- "~" or "^" P, after the sign
abbrev pub turned : Primaries → Turn → ℕ → Option Wish → Cursor → Body → Open → Outcome ℕ
turned f t p w c b o = alter (counted p b) c (λ _ b₁. then (f (Some (wish 2 p)) w c b₁ o) (λ i c₂ b₂ o₂. settle (node.Turned t i) p c₂ b₂ o₂))

-- the end of "[" E op E "]", and what is asked of its arity
abbrev pub combined : Node → Option Wish → Option Wish → Cursor → Body → Open → Outcome ℕ
combined n u w c b o =
    closing (closed o) mark.CloseBracket c (λ p c₁ o₁. alter (putting kind.Expression n p b) c₁ (λ i b₁. check (asked u (arity_in i b₁)) c₁ (λ _. check (asked (at_end w c₁) (arity_in i b₁)) c₁ (λ _. ok i c₁ b₁ o₁))))

-- "[" E op E "]", after the bracket
abbrev pub bracketed : (Option Wish → Cursor → Body → Open → Outcome ℕ) → ℕ → Option Wish → Option Wish → Cursor → Body → Open → Outcome ℕ
bracketed f p u w c b o =
    alter (opened p o) c (λ _ o₁.
    then (f None c b o₁) (λ x c₂ b₂ o₂.
    taking (operator_of (head c₂)) c₂ (λ s c₃.
    alter (counted (place_of (head c₂)) b₂) c₃ (λ _ b₃.
    then (f None c₃ b₃ o₂) (λ y c₄ b₄ o₄.
    combined (node.Combined s x y) u w c₄ b₄ o₄)))))

-- a ' sign after the expression i, whose first token is at p; the arity is judged before the part is counted
abbrev pub prime : ℕ → Option Wish → ℕ → Cursor → Body → Open → Outcome ℕ
prime p w i c b o =
    check (asked (at_end w (step c)) (arity_in i b)) (step c) (λ _.
    alter (counted (place_of (head c)) b) (step c) (λ _ b₁. settle (node.Next i) p (step c) b₁ o))

-- any number of ' signs after the expression i, whose first token is at p
unfoldable pub primes : ℕ → ℕ → Option Wish → ℕ → Cursor → Body → Open → Outcome ℕ
primes zero p w i c b o = ok i c b o
primes (suc n) p w i c b o =
    cond (is_mark mark.Prime (head c))
    (then (prime p w i c b o) (λ j c₁ b₁ o₁. primes n p w j c₁ b₁ o₁))
    (ok i c b o)

-- E: P and any number of ' signs
abbrev pub primed : Primaries → Option Wish → Cursor → Body → Open → Outcome ℕ
primed f w c b o = then (f None w c b o) (λ i c₁ b₁ o₁. primes most_parts (place_of (head c)) w i c₁ b₁ o₁)

-- P, by what it begins with
abbrev pub beginning : Primaries → Option Head → Option Wish → Option Wish → Cursor → Body → Open → Outcome ℕ
beginning f None u w c b o = refused c
beginning f (Some (h_name x)) u w c b o = named x (place_of (head c)) u (at_end w (step c)) (step c) b o
beginning f (Some (h_constant k)) u w c b o = constant k (place_of (head c)) u (at_end w (step c)) (step c) b o
beginning f (Some (h_turn t)) u w c b o = turned f t (place_of (head c)) w (step c) b o
beginning f (Some h_open) u w c b o = bracketed (primed f) (place_of (head c)) u w (step c) b o

abbrev pub begun : Primaries → Primaries
begun f u w c b o = beginning f (head_of (head c)) u w c b o

-- P, at most so many levels deep
unfoldable pub primary : ℕ → Primaries
primary zero u w c b o = refused c
primary (suc n) u w c b o = begun (primary n) u w c b o

abbrev pub expression : ℕ → Option Wish → Cursor → Body → Open → Outcome ℕ
expression n w c b o = primed (primary n) w c b o

-- E that begins with a NAME at p, after it
abbrev pub after_name : List ℕ → ℕ → Cursor → Body → Open → Outcome ℕ
after_name x p c b o = then (named x p None None c b o) (λ i c₁ b₁ o₁. primes most_parts p None i c₁ b₁ o₁)
