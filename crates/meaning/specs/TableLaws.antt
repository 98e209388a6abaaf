-- The laws of tables: each is the table of what its operator means. Assumes nothing.
use Rattle.std.specs.Prelude.{◌≡◌, ℕ, ◌↔◌, List}
use Rattle.problem.specs.declared.node.Constant.{Constant}
use Rattle.problem.specs.declared.node.Quantifier.TheVariants as quantifier
use Rattle.meaning.specs.Levels.{Level, AtLeast}
use Rattle.meaning.specs.Tuples.{Union, Intersection, Difference, Product, Join, Transpose, Closure, ConstantHas, Some, None, Within, Same}
use Rattle.meaning.specs.Formulas.{Expr}
use Rattle.meaning.specs.Meaning.{Path, Has, QuantifiedBy}
use Rattle.meaning.specs.Tables.{Table, constant_table, variable_table, union_table, intersection_table, difference_table, product_table, join_table, transpose_table, closure_table, some_value, no_value, within_value, same_value, all_value, some_of_value}
use Rattle.meaning.specs.Expressions.{expr_table}
use Rattle.meaning.specs.Shown.{Of}

pub record TablesStand : Type 0 where
  pub constants : (n : ℕ) (c : Constant) (t : Level) (r : ℕ) → Of (constant_table n c) t r ↔ ConstantHas n c r
  pub variables : (a : ℕ) (t : Level) (r : ℕ) → Of (variable_table a) t r ↔ (r ≡ a)
  pub unions : (f g : Table) (t : Level) (r : ℕ) → Of (union_table f g) t r ↔ Union (Of f) (Of g) t r
  pub intersections : (f g : Table) (t : Level) (r : ℕ) → Of (intersection_table f g) t r ↔ Intersection (Of f) (Of g) t r
  pub differences : (f g : Table) (t : Level) (r : ℕ) → Of (difference_table f g) t r ↔ Difference (Of f) (Of g) t r
  pub products : (m : ℕ) (f g : Table) (t : Level) (r : ℕ) → Of (product_table m f g) t r ↔ Product m (Of f) (Of g) t r
  pub joins : (n m : ℕ) (f g : Table) (t : Level) (r : ℕ) → Of (join_table n m f g) t r ↔ Join n m (Of f) (Of g) t r
  pub transposes : (n : ℕ) (f : Table) (t : Level) (r : ℕ) → Of (transpose_table n f) t r ↔ Transpose n (Of f) t r
  -- chains of any length, by rounds over n atoms
  pub closures : (n : ℕ) (f : Table) (t : Level) (r : ℕ) → Of (closure_table n f) t r ↔ Closure n (Of f) t r
  pub some : (c : ℕ) (f : Table) (t : Level) → AtLeast t (some_value c f) ↔ Some c (Of f) t
  pub none : (c : ℕ) (f : Table) (t : Level) → AtLeast t (no_value c f) ↔ None c (Of f) t
  pub within : (c : ℕ) (f g : Table) (t : Level) → AtLeast t (within_value c f g) ↔ Within c (Of f) (Of g) t
  pub same : (c : ℕ) (f g : Table) (t : Level) → AtLeast t (same_value c f g) ↔ Same c (Of f) (Of g) t
  pub all : (n : ℕ) (d f : Table) (t : Level) → AtLeast t (all_value n d f) ↔ QuantifiedBy quantifier.All n (Of d) (λ a u. Of f u a) t
  pub some_of : (n : ℕ) (d f : Table) (t : Level) → AtLeast t (some_of_value n d f) ↔ QuantifiedBy quantifier.Some n (Of d) (λ a u. Of f u a) t

-- each expression has a value at each tuple: that of its table
abbrev pub ExpressionsStand : Type 0
ExpressionsStand = (n : ℕ) (π : Path) (a : Expr) (e : List ℕ) (i : ℕ) (t : Level) (r : ℕ) → Of (expr_table n π a e i) t r ↔ Has n π a e i t r
