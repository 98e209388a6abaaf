-- What each node of a formula is, by what its parts are, for src/judge. Assumes nothing.
use Rattle.std.specs.Prelude.{◌≡◌, ℕ, suc, ◌+◌, ◌-◌, ◌<◌, max, Bool, true, false, cond, ◌&&◌, List, length, take, Some, None, Ok, Err, Option, Result, ◌==◌, nat_le, nat_lt, slice_index_or}
use Rattle.std.specs.List.{slice_get}
use Rattle.problem.specs.declared.node.Node.{Node}
use Rattle.problem.specs.declared.node.Node.TheVariants as node
use Rattle.problem.specs.declared.node.Constant.{Constant}
use Rattle.problem.specs.declared.node.Constant.TheVariants as constant
use Rattle.problem.specs.declared.node.Operator.{Operator}
use Rattle.problem.specs.declared.node.Operator.TheVariants as operator
use Rattle.problem.specs.declared.node.Prefix.{Prefix}
use Rattle.problem.specs.declared.node.Prefix.TheVariants as prefix
use Rattle.problem.specs.declared.node.Infix.{Infix}
use Rattle.problem.specs.declared.node.Infix.TheVariants as word
use Rattle.problem.specs.declared.sort.Sort.{Sort}
use Rattle.problem.specs.declared.sort.Sort.TheVariants as sort
use Rattle.problem.specs.declared.sort.Kind.{Kind}
use Rattle.problem.specs.declared.sort.Kind.TheVariants as kind
use Rattle.problem.specs.declared.sort.Misfit.{Misfit}
use Rattle.problem.specs.declared.sort.Misfit.TheVariants as misfit
use Rattle.problem.specs.declared.part.Part.{Part}

-- the most parts of a formula, the deepest past, the most variables bound at once
abbrev pub most_parts : ℕ
most_parts = 256

abbrev pub most_past : ℕ
most_past = 4

abbrev pub most_variables : ℕ
most_variables = 4

-- an expression of an arity, or a formula so deep in the past, under so many variables
abbrev pub expression : ℕ → ℕ → Sort
expression a b = sort.Expression a b

abbrev pub formula : ℕ → ℕ → Sort
formula p b = sort.Formula p b

-- the arity of an expression, 0 of a formula; the past of a formula, 0 of an expression; how many variables either is under
abbrev pub sort_arity : Sort → ℕ
sort_arity (sort.Expression a b) = a
sort_arity (sort.Formula p b) = 0

abbrev pub sort_past : Sort → ℕ
sort_past (sort.Expression a b) = 0
sort_past (sort.Formula p b) = p

abbrev pub sort_bound : Sort → ℕ
sort_bound (sort.Expression a b) = b
sort_bound (sort.Formula p b) = b

abbrev pub is_expression : Sort → Bool
is_expression (sort.Expression a b) = true
is_expression (sort.Formula p b) = false

abbrev pub is_formula : Sort → Bool
is_formula (sort.Expression a b) = false
is_formula (sort.Formula p b) = true

-- the node of a part, and what it is
abbrev pub part_node : Part → Node
part_node p = p.node

abbrev pub part_sort : Part → Sort
part_sort p = p.sort

-- the sort, if the test is met
abbrev pub fitting : Bool → Sort → Result Sort Misfit
fitting b s = cond b (Ok s) (Err misfit.Arity)

-- what an earlier node is
abbrev pub from : Option Sort → (Sort → Result Sort Misfit) → Result Sort Misfit
from None k = Err misfit.Arity
from (Some s) k = k s

abbrev pub constant_arity : Constant → ℕ
constant_arity constant.Univ = 1
constant_arity constant.None = 1
constant_arity constant.Iden = 2

-- whether two arities fit a sign, and the arity that comes of them
abbrev pub suits : Operator → ℕ → ℕ → Bool
suits operator.Union a b = a == b
suits operator.Difference a b = a == b
suits operator.Intersection a b = a == b
suits operator.Product a b = nat_le (a + b) 3
suits operator.Join a b = nat_le 3 (a + b) && nat_le (a + b) 5

abbrev pub outcome : Operator → ℕ → ℕ → ℕ
outcome operator.Union a b = a
outcome operator.Difference a b = a
outcome operator.Intersection a b = a
outcome operator.Product a b = a + b
outcome operator.Join a b = a + b - 2

-- how much deeper a word is in the past
abbrev pub prefix_past : Prefix → ℕ
prefix_past prefix.Not = 0
prefix_past prefix.After = 0
prefix_past prefix.Always = 0
prefix_past prefix.Eventually = 0
prefix_past prefix.Before = 1
prefix_past prefix.Historically = 1
prefix_past prefix.Once = 1

abbrev pub infix_past : Infix → ℕ
infix_past word.And = 0
infix_past word.Or = 0
infix_past word.Implies = 0
infix_past word.Until = 0
infix_past word.Since = 1

-- a formula is not too deep in the past
abbrev pub shallow : Sort → Result Sort Misfit
shallow s = cond (nat_le (sort_past s) most_past) (Ok s) (Err misfit.Past)

abbrev pub prefixed : ℕ → Sort → Result Sort Misfit
prefixed d (sort.Expression a b) = Err misfit.Arity
prefixed d (sort.Formula p b) = shallow (formula (p + d) b)

abbrev pub joined : ℕ → Sort → Sort → Result Sort Misfit
joined d (sort.Expression a b) t = Err misfit.Arity
joined d (sort.Formula p b) (sort.Expression a c) = Err misfit.Arity
joined d (sort.Formula p b) (sort.Formula q c) = shallow (formula (max p q + d) (max b c))

abbrev pub combined : Operator → Sort → Sort → Result Sort Misfit
combined o (sort.Formula p b) t = Err misfit.Arity
combined o (sort.Expression x b) (sort.Formula p c) = Err misfit.Arity
combined o (sort.Expression x b) (sort.Expression y c) = fitting (suits o x y) (expression (outcome o x y) (max b c))

abbrev pub compared : Sort → Sort → Result Sort Misfit
compared (sort.Formula p b) t = Err misfit.Arity
compared (sort.Expression x b) (sort.Formula p c) = Err misfit.Arity
compared (sort.Expression x b) (sort.Expression y c) = fitting (x == y) (formula 0 (max b c))

-- a variable is used in the body only
abbrev pub quantified : ℕ → Sort → Sort → Result Sort Misfit
quantified v (sort.Formula p b) t = Err misfit.Arity
quantified v (sort.Expression x b) (sort.Expression y c) = Err misfit.Arity
quantified v (sort.Expression x b) (sort.Formula p c) =
    fitting (x == 1 && (nat_le b v && (nat_le c (suc v) && nat_lt v most_variables))) (formula p v)

abbrev pub relation_sort : Option ℕ → Result Sort Misfit
relation_sort None = Err misfit.Arity
relation_sort (Some a) = Ok (expression a 0)

abbrev pub variable_sort : ℕ → Result Sort Misfit
variable_sort v = fitting (nat_lt v most_variables) (expression 1 (suc v))

-- pairs turned round or chained; an expression an instant later; a question of an expression
abbrev pub turned_sort : Sort → Result Sort Misfit
turned_sort (sort.Expression a b) = fitting (a == 2) (expression 2 b)
turned_sort (sort.Formula p b) = Err misfit.Arity

abbrev pub next_sort : Sort → Result Sort Misfit
next_sort (sort.Expression a b) = Ok (expression a b)
next_sort (sort.Formula p b) = Err misfit.Arity

abbrev pub tested_sort : Sort → Result Sort Misfit
tested_sort (sort.Expression a b) = Ok (formula 0 b)
tested_sort (sort.Formula p b) = Err misfit.Arity

-- what a node is, given the arities of the relations and what the nodes before it are
abbrev pub judge : List ℕ → List Sort → Node → Result Sort Misfit
judge rs ss (node.Relation r) = relation_sort (slice_get rs r)
judge rs ss (node.Variable v) = variable_sort v
judge rs ss (node.Constant c) = Ok (expression (constant_arity c) 0)
judge rs ss (node.Turned t a) = from (slice_get ss a) turned_sort
judge rs ss (node.Next a) = from (slice_get ss a) next_sort
judge rs ss (node.Combined o a b) = from (slice_get ss a) (λ s. from (slice_get ss b) (λ t. combined o s t))
judge rs ss (node.Tested q a) = from (slice_get ss a) tested_sort
judge rs ss (node.Compared c a b) = from (slice_get ss a) (λ s. from (slice_get ss b) (λ t. compared s t))
judge rs ss (node.Prefixed p a) = from (slice_get ss a) (λ s. prefixed (prefix_past p) s)
judge rs ss (node.Joined i a b) = from (slice_get ss a) (λ s. from (slice_get ss b) (λ t. joined (infix_past i) s t))
judge rs ss (node.Quantified q v a b) = from (slice_get ss a) (λ s. from (slice_get ss b) (λ t. quantified v s t))

-- whether a sort is of a kind
abbrev pub of_kind : Kind → Sort → Bool
of_kind kind.Formula s = is_formula s
of_kind kind.Expression s = is_expression s

-- whether a sort has an arity of a kind: none of a formula, one above 0 of an expression
abbrev pub arity_of_kind : Kind → Sort → Bool
arity_of_kind kind.Formula s = sort_arity s == 0
arity_of_kind kind.Expression s = nat_lt 0 (sort_arity s)

-- whether what was found, if so, has an arity of a kind
abbrev pub arity_found : Kind → Result Sort Misfit → Bool
arity_found k (Ok s) = arity_of_kind k s
arity_found k (Err m) = true

-- a node of that kind, which uses at most so many variables
abbrev pub wanted : Kind → ℕ → Result Sort Misfit → Result Sort Misfit
wanted k b (Ok s) = fitting (of_kind k s && nat_le (sort_bound s) b) s
wanted k b (Err m) = Err m

-- what comes of one node more
abbrev pub placed : List ℕ → List Sort → Kind → ℕ → Node → Result Sort Misfit
placed rs ss k b n = cond (nat_lt (length ss) most_parts) (wanted k b (judge rs ss n)) (Err misfit.Room)

-- what stands beyond the end
abbrev pub no_sort : Sort
no_sort = expression 0 0

abbrev pub sort_at : List Sort → ℕ → Sort
sort_at ss i = slice_index_or ss i no_sort

-- the arity of a node, 0 of a formula and beyond the end
abbrev pub arity_at : List Sort → ℕ → ℕ
arity_at ss i = sort_arity (sort_at ss i)

abbrev pub bound_at : List Sort → ℕ → ℕ
bound_at ss i = sort_bound (sort_at ss i)

abbrev pub node_at : List Node → ℕ → Node
node_at ns i = slice_index_or ns i (node.Relation 0)

-- whether this sort was found
abbrev pub found : Result Sort Misfit → Sort → Bool
found (Ok (sort.Expression a b)) (sort.Expression c d) = a == c && b == d
found (Ok (sort.Expression a b)) (sort.Formula q d) = false
found (Ok (sort.Formula p b)) (sort.Expression c d) = false
found (Ok (sort.Formula p b)) (sort.Formula q d) = p == q && b == d
found (Err m) t = false

-- each node is what it is found to be from the nodes before it
abbrev pub Judged : List ℕ → List Node → List Sort → Type 0
Judged rs ns ss = (i : ℕ) → i < length ns → found (judge rs (take i ss) (node_at ns i)) (sort_at ss i) ≡ true

-- a whole formula: the last node is one, and uses no variable
pub record Whole (ss : List Sort) : Type 0 where
  pub some : 0 < length ss
  pub formula : is_formula (sort_at ss (length ss - 1)) ≡ true
  pub closed : bound_at ss (length ss - 1) ≡ 0
