-- Rows of values over a window of w instants, of which the last p come again for ever: the row of an operator from those of its parts. Assumes nothing.
use Rattle.std.specs.Prelude.{ℕ, zero, suc, ◌+◌, ◌-◌, ◌<◌, cond, nat_lt, List}
use Rattle.lasso.specs.declared.value.Value.{Value}
use Rattle.lasso.specs.declared.value.Value.TheVariants.{No, Yes}
use Rattle.lasso.specs.Values.{not, smaller, greater}
use Rattle.problem.specs.declared.node.Prefix.{Prefix}
use Rattle.problem.specs.declared.node.Prefix.TheVariants as prefix
use Rattle.problem.specs.declared.node.Infix.{Infix}
use Rattle.problem.specs.declared.node.Infix.TheVariants as word
use Rattle.meaning.specs.Levels.{Graded}
use Rattle.meaning.specs.Tables.{Table, TableIs}
use Rattle.meaning.specs.Shown.{ShownAt}

-- a table by instants
abbrev pub Row : Type 0
Row = Table

-- a list has the row's first w values
abbrev pub RowIs : ℕ → List Value → Row → Type 0
RowIs w vs r = TableIs w vs r

-- the row's first w values are those of what is reached
pub record Shows (w : ℕ) (P : Graded) (r : Row) : Type 0 where
  pub value : (i : ℕ) → i < w → ShownAt (λ t. P t i) (r i)

-- n steps back, from i + n to i
abbrev pub back : (ℕ → Value → Value) → Value → ℕ → ℕ → Value
back f v zero i = v
back f v (suc n) i = f i (back f v n (i + 1))

-- steps forth, from 0 to i
abbrev pub forth : (ℕ → Value → Value) → Value → ℕ → Value
forth f v zero = f zero v
forth f v (suc i) = f (suc i) (forth f v i)

-- a walk back once round the last p instants, for what follows the window, and then from its end to i
abbrev pub round : ℕ → ℕ → (ℕ → Value → Value) → Value → Row
round w p f v i = back f (back f v p (w - p)) (w - i) i

abbrev pub not_row : Row → Row
not_row a i = not (a i)

abbrev pub and_row : Row → Row → Row
and_row a b i = smaller (a i) (b i)

abbrev pub or_row : Row → Row → Row
or_row a b i = greater (a i) (b i)

abbrev pub implies_row : Row → Row → Row
implies_row a b i = greater (not (a i)) (b i)

abbrev pub after_row : ℕ → ℕ → Row → Row
after_row w p a i = cond (nat_lt (i + 1) w) (a (i + 1)) (a (w - p))

abbrev pub before_row : Row → Row
before_row a zero = No
before_row a (suc i) = a i

-- the second now, or the first now and v at the instant that is walked from
abbrev pub holding : Row → Row → ℕ → Value → Value
holding a b i v = greater (b i) (smaller (a i) v)

abbrev pub until_row : ℕ → ℕ → Row → Row → Row
until_row w p a b = round w p (holding a b) No

abbrev pub since_row : Row → Row → Row
since_row a b = forth (holding a b) No

abbrev pub always_row : ℕ → ℕ → Row → Row
always_row w p a = round w p (λ i v. smaller (a i) v) Yes

abbrev pub eventually_row : ℕ → ℕ → Row → Row
eventually_row w p a = round w p (λ i v. greater (a i) v) No

abbrev pub historically_row : Row → Row
historically_row a = forth (λ i v. smaller (a i) v) Yes

abbrev pub once_row : Row → Row
once_row a = forth (λ i v. greater (a i) v) No

abbrev pub prefixed_row : ℕ → ℕ → Prefix → Row → Row
prefixed_row w p prefix.Not a = not_row a
prefixed_row w p prefix.After a = after_row w p a
prefixed_row w p prefix.Always a = always_row w p a
prefixed_row w p prefix.Eventually a = eventually_row w p a
prefixed_row w p prefix.Before a = before_row a
prefixed_row w p prefix.Historically a = historically_row a
prefixed_row w p prefix.Once a = once_row a

abbrev pub joined_row : ℕ → ℕ → Infix → Row → Row → Row
joined_row w p word.And a b = and_row a b
joined_row w p word.Or a b = or_row a b
joined_row w p word.Implies a b = implies_row a b
joined_row w p word.Until a b = until_row w p a b
joined_row w p word.Since a b = since_row a b
