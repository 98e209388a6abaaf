-- Tables of values by tuple number, and what each operator makes of them. Assumes nothing.
use Rattle.std.specs.Prelude.{◌≡◌, ℕ, zero, suc, ◌+◌, ◌-◌, ◌*◌, ◌/◌, ◌%◌, ◌<◌, Bool, cond, ◌==◌, List, slice_index_or}
use Rattle.lasso.specs.declared.value.Value.{Value}
use Rattle.lasso.specs.declared.value.Value.TheVariants.{No, Yes}
use Rattle.lasso.specs.Values.{not, smaller, greater}
use Rattle.problem.specs.declared.node.Constant.{Constant}
use Rattle.problem.specs.declared.node.Constant.TheVariants as constant
use Rattle.problem.specs.declared.node.Turn.{Turn}
use Rattle.problem.specs.declared.node.Turn.TheVariants as turn
use Rattle.problem.specs.declared.node.Operator.{Operator}
use Rattle.problem.specs.declared.node.Operator.TheVariants as operator
use Rattle.problem.specs.declared.node.Test.{Test}
use Rattle.problem.specs.declared.node.Test.TheVariants as test
use Rattle.problem.specs.declared.node.Comparison.{Comparison}
use Rattle.problem.specs.declared.node.Comparison.TheVariants as comparison
use Rattle.problem.specs.declared.node.Quantifier.{Quantifier}
use Rattle.problem.specs.declared.node.Quantifier.TheVariants as quantifier
use Rattle.meaning.specs.Tuples.{tuples}

abbrev pub Table : Type 0
Table = ℕ → Value

-- the table that a list stands for: no beyond its end
abbrev pub table_at : List Value → Table
table_at xs r = slice_index_or xs r No

-- the list begins with the values of f below c
abbrev pub TableIs : ℕ → List Value → Table → Type 0
TableIs c xs f = (r : ℕ) → r < c → table_at xs r ≡ f r

-- the greatest, and the least, of the values below c
unfoldable pub highest : ℕ → Table → Value
highest zero f = No
highest (suc c) f = greater (highest c f) (f c)

unfoldable pub lowest : ℕ → Table → Value
lowest zero f = Yes
lowest (suc c) f = smaller (lowest c f) (f c)

abbrev pub decided : Bool → Value
decided b = cond b Yes No

abbrev pub constant_table : ℕ → Constant → Table
constant_table n constant.Univ r = Yes
constant_table n constant.None r = No
constant_table n constant.Iden r = decided (r / n == r % n)

-- of a variable that is bound to a
abbrev pub variable_table : ℕ → Table
variable_table a r = decided (r == a)

abbrev pub union_table : Table → Table → Table
union_table f g r = greater (f r) (g r)

abbrev pub intersection_table : Table → Table → Table
intersection_table f g r = smaller (f r) (g r)

abbrev pub difference_table : Table → Table → Table
difference_table f g r = smaller (f r) (not (g r))

abbrev pub product_table : ℕ → Table → Table → Table
product_table m f g r = smaller (f (r / m)) (g (r % m))

abbrev pub join_table : ℕ → ℕ → Table → Table → Table
join_table n m f g r = highest n (λ a. smaller (f (r / m * n + a)) (g (a * m + r % m)))

abbrev pub transpose_table : ℕ → Table → Table
transpose_table n f r = f (r % n * n + r / n)

-- pairs, or two pairs that meet at the atom k
abbrev pub round_table : ℕ → ℕ → Table → Table
round_table n k f r = greater (f r) (smaller (f (r / n * n + k)) (f (k * n + r % n)))

-- chains whose inner atoms are below k
unfoldable pub chains_below : ℕ → ℕ → Table → Table
chains_below n zero f = f
chains_below n (suc k) f = round_table n k (chains_below n k f)

abbrev pub closure_table : ℕ → Table → Table
closure_table n f = chains_below n n f

abbrev pub turned_table : Turn → ℕ → Table → Table
turned_table turn.Transpose n f r = transpose_table n f r
turned_table turn.Closure n f r = closure_table n f r

-- the second has arity k
abbrev pub combined_table : Operator → ℕ → ℕ → Table → Table → Table
combined_table operator.Union n k f g r = union_table f g r
combined_table operator.Difference n k f g r = difference_table f g r
combined_table operator.Intersection n k f g r = intersection_table f g r
combined_table operator.Product n k f g r = product_table (tuples n k) f g r
combined_table operator.Join n k f g r = join_table n (tuples n (k - 1)) f g r

-- the values of formulas of tables with c values
abbrev pub some_value : ℕ → Table → Value
some_value c f = highest c f

abbrev pub no_value : ℕ → Table → Value
no_value c f = not (highest c f)

abbrev pub within_value : ℕ → Table → Table → Value
within_value c f g = lowest c (λ r. greater (not (f r)) (g r))

abbrev pub same_value : ℕ → Table → Table → Value
same_value c f g = smaller (within_value c f g) (within_value c g f)

-- over n atoms: d has the domain, f the value of the formula for each atom
abbrev pub all_value : ℕ → Table → Table → Value
all_value n d f = lowest n (λ a. greater (not (d a)) (f a))

abbrev pub some_of_value : ℕ → Table → Table → Value
some_of_value n d f = highest n (λ a. smaller (d a) (f a))

abbrev pub tested_value : Test → ℕ → Table → Value
tested_value test.Some c f = some_value c f
tested_value test.No c f = no_value c f

abbrev pub compared_value : Comparison → ℕ → Table → Table → Value
compared_value comparison.In c f g = within_value c f g
compared_value comparison.Equal c f g = same_value c f g

abbrev pub quantified_value : Quantifier → ℕ → Table → Table → Value
quantified_value quantifier.All n d f = all_value n d f
quantified_value quantifier.Some n d f = some_of_value n d f
