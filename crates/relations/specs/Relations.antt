-- Relations with their bounds, and how many of their tuples are free. Assumes nothing.
use Rattle.std.specs.Prelude.{◌≡◌, ℕ, Bool, true, false, cond, List, [], ◌∷◌, take, count_by, Some, None, Option, Result, MatchResult, ◌==◌, codes}
use Rattle.lasso.specs.declared.value.Value.{Value}
use Rattle.lasso.specs.declared.value.Value.TheVariants.{No, Open, Yes}
use Rattle.names.specs.Names.{spelling}
use Rattle.relations.specs.declared.relation.Atom.{Atom}
use Rattle.relations.specs.declared.relation.Mutability.{Mutability}
use Rattle.relations.specs.declared.relation.Mutability.TheVariants.{Fixed, Mutable}
use Rattle.relations.specs.declared.relation.Arity.{Arity}
use Rattle.relations.specs.declared.relation.Arity.TheVariants.{One, Two}
use Rattle.relations.specs.declared.relation.NotAnArity.{NotAnArity}
use Rattle.relations.specs.declared.relation.Relation.{Relation}

-- the most tuples of a relation
abbrev pub most_tuples : ℕ
most_tuples = 64

abbrev pub arity_of : ℕ → Option Arity
arity_of n = cond (n == 1) (Some One) (cond (n == 2) (Some Two) None)

-- the result is the arity of so many atoms, or an error where there is none
abbrev pub IsArityOf : ℕ → Result Arity NotAnArity → Type 0
IsArityOf n r = MatchResult r (λ a. arity_of n ≡ Some a) (λ e. arity_of n ≡ None)

-- how many atoms a tuple has
abbrev pub arity_number : Arity → ℕ
arity_number One = 1
arity_number Two = 2

-- the word for whether a relation may differ from state to state
abbrev pub mutability_word : Mutability → List ℕ
mutability_word Fixed = codes "fixed"
mutability_word Mutable = codes "mutable"

-- what the lower and the upper set say of a tuple
abbrev pub bound : Bool → Bool → Value
bound true true = Yes
bound true false = Yes
bound false true = Open
bound false false = No

-- what they say of each tuple
unfoldable pub bounds_of : List Bool → List Bool → List Value
bounds_of [] [] = []
bounds_of [] (u ∷ us) = []
bounds_of (l ∷ ls) [] = []
bounds_of (l ∷ ls) (u ∷ us) = bound l u ∷ bounds_of ls us

-- the name of an atom
abbrev pub atom_name : Atom → List ℕ
atom_name a = spelling a.name

abbrev pub relation_name : Relation → List ℕ
relation_name r = spelling r.name

-- a relation as it is declared
pub record Declared : Type 0 where
  pub name : List ℕ
  pub mutability : Mutability
  pub arity : Arity
  pub bounds : List Value

abbrev pub declared_of : Relation → Declared
declared_of r = record { name = spelling r.name; mutability = r.mutability; arity = r.arity; bounds = r.bounds }

abbrev pub declared : List ℕ → Mutability → Arity → List Bool → List Bool → Declared
declared n m a lower upper = record { name = n; mutability = m; arity = a; bounds = bounds_of lower upper }

-- whether two values are one
abbrev pub same : Value → Value → Bool
same No No = true
same No Open = false
same No Yes = false
same Open No = false
same Open Open = true
same Open Yes = false
same Yes No = false
same Yes Open = false
same Yes Yes = true

-- how many of the first values are this one
abbrev pub number_of : Value → ℕ → List Value → ℕ
number_of v n vs = count_by (same v) (take n vs)

-- how many of the first values are open
abbrev pub free_in : ℕ → List Value → ℕ
free_in n vs = number_of Open n vs
