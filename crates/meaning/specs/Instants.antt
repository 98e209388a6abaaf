-- Operators on what a formula reaches at each instant of an endless path. Assumes nothing.
use Rattle.std.specs.Prelude.{ℕ, ◌+◌, ◌-◌, ◌<◌, ◌≤◌, ◌⊎◌}
use Rattle.problem.specs.declared.node.Prefix.{Prefix}
use Rattle.problem.specs.declared.node.Prefix.TheVariants as prefix
use Rattle.problem.specs.declared.node.Infix.{Infix}
use Rattle.problem.specs.declared.node.Infix.TheVariants as word
use Rattle.meaning.specs.Levels.{opposite, Graded}

abbrev pub Not : Graded → Graded
Not P t i = P (opposite t) i → ⊥

abbrev pub And : Graded → Graded → Graded
And P Q t i = P t i × Q t i

abbrev pub Or : Graded → Graded → Graded
Or P Q t i = P t i ⊎ Q t i

abbrev pub Implies : Graded → Graded → Graded
Implies P Q t i = Not P t i ⊎ Q t i

-- the next instant, and the one before; before the first there is no
abbrev pub After : Graded → Graded
After P t i = P t (i + 1)

abbrev pub Before : Graded → Graded
Before P t i = (0 < i) × P t (i - 1)

-- at some later instant (or now), and until then
abbrev pub Until : Graded → Graded → Graded
Until P Q t i = (j : ℕ) × (i ≤ j) × Q t j × ((m : ℕ) → i ≤ m → m < j → P t m)

-- at some earlier instant (or now), and since then
abbrev pub Since : Graded → Graded → Graded
Since P Q t i = (j : ℕ) × (j ≤ i) × Q t j × ((m : ℕ) → j < m → m ≤ i → P t m)

abbrev pub Always : Graded → Graded
Always P t i = (j : ℕ) → i ≤ j → P t j

abbrev pub Eventually : Graded → Graded
Eventually P t i = (j : ℕ) × (i ≤ j) × P t j

abbrev pub Historically : Graded → Graded
Historically P t i = (j : ℕ) → j ≤ i → P t j

abbrev pub Once : Graded → Graded
Once P t i = (j : ℕ) × (j ≤ i) × P t j

abbrev pub PrefixedBy : Prefix → Graded → Graded
PrefixedBy prefix.Not P t i = Not P t i
PrefixedBy prefix.After P t i = After P t i
PrefixedBy prefix.Always P t i = Always P t i
PrefixedBy prefix.Eventually P t i = Eventually P t i
PrefixedBy prefix.Before P t i = Before P t i
PrefixedBy prefix.Historically P t i = Historically P t i
PrefixedBy prefix.Once P t i = Once P t i

abbrev pub JoinedBy : Infix → Graded → Graded → Graded
JoinedBy word.And P Q t i = And P Q t i
JoinedBy word.Or P Q t i = Or P Q t i
JoinedBy word.Implies P Q t i = Implies P Q t i
JoinedBy word.Until P Q t i = Until P Q t i
JoinedBy word.Since P Q t i = Since P Q t i
