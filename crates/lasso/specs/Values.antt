-- The tables of the three values, for src/value. Assumes nothing.
use Rattle.std.specs.Prelude.{ℕ, Bool, true, false, List, codes}
use Rattle.lasso.specs.declared.value.Value.{Value}
use Rattle.lasso.specs.declared.value.Value.TheVariants.{No, Open, Yes}

-- the words for the values
abbrev pub word_of : Value → List ℕ
word_of No = codes "no"
word_of Open = codes "open"
word_of Yes = codes "yes"

-- yes of what holds, no of what does not
abbrev pub of_bool : Bool → Value
of_bool true = Yes
of_bool false = No

abbrev pub not : Value → Value
not No = Yes
not Open = Open
not Yes = No

abbrev pub smaller : Value → Value → Value
smaller No No = No
smaller No Open = No
smaller No Yes = No
smaller Open No = No
smaller Open Open = Open
smaller Open Yes = Open
smaller Yes No = No
smaller Yes Open = Open
smaller Yes Yes = Yes

abbrev pub greater : Value → Value → Value
greater No No = No
greater No Open = Open
greater No Yes = Yes
greater Open No = Open
greater Open Open = Open
greater Open Yes = Yes
greater Yes No = Yes
greater Yes Open = Yes
greater Yes Yes = Yes
