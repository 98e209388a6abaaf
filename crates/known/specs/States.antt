-- What the states of a table show of a problem, and what is known in each, for src/clash and src/knowing. Assumes nothing.
use Rattle.std.specs.Prelude.{◌≡◌, ◌≢◌, ℕ, ◌<◌, ◌≤◌, ◌⊎◌, true}
use Rattle.lasso.specs.declared.value.Value.{Value}
use Rattle.lasso.specs.declared.value.Value.TheVariants.{Open}
use Rattle.lasso.specs.Lassos.{state_at}
use Rattle.source.specs.Meanings.{Meaning}
use Rattle.problem.specs.declared.problem.Problem.{Problem}
use Rattle.problem.specs.Problems.{sizes_in}
use Rattle.places.specs.Places.{place_count}
use Rattle.places.specs.Asked.{FixedAt, BoundAt}
use Rattle.table.specs.declared.table.Table.{Table}
use Rattle.table.specs.Tables.{value_in, Copied}
use Rattle.known.specs.Known.{Opposed, KnownAt}

-- what is told of a place in a state is opposed to its bounds
pub record AgainstBounds (p : Problem) (t : Table) (s place : ℕ) : Type 0 where
  pub bound : Value
  pub is : BoundAt p place bound
  pub opposed : Opposed bound (value_in t s place)

-- what is told of a place in some state from lo on and below hi is opposed to a value
pub record OpposedIn (t : Table) (lo hi place : ℕ) (v : Value) : Type 0 where
  pub state : ℕ
  pub low : lo ≤ state
  pub high : state < hi
  pub opposed : Opposed (value_in t state place) v

-- what is told of a place in a state is opposed to what is told of it in an earlier one
pub record OpposedBefore (t : Table) (s place : ℕ) : Type 0 where
  pub earlier : ℕ
  pub before : earlier < s
  pub opposed : Opposed (value_in t earlier place) (value_in t s place)

-- a fixed place is told yes and no, up to a state
pub record YesAndNo (p : Problem) (t : Table) (s place : ℕ) : Type 0 where
  pub fixed : FixedAt p place true
  pub told : OpposedBefore t s place

-- a contradiction shows in a state at a place
abbrev pub Shows : Problem → Table → ℕ → ℕ → Type 0
Shows p t s place = AgainstBounds p t s place ⊎ YesAndNo p t s place

-- none shows in a state at the first n places
pub record NoneBelow (p : Problem) (t : Table) (s n : ℕ) : Type 0 where
  pub none : (place : ℕ) → place < n → Shows p t s place → ⊥

-- none shows in the first n states
pub record NoneBefore (p : Problem) (t : Table) (n : ℕ) : Type 0 where
  pub none : (s place : ℕ) → s < n → place < t.places → Shows p t s place → ⊥

-- the first contradiction: none shows in an earlier state, and in this one none at a lower place
pub record FirstShown (p : Problem) (t : Table) (s place : ℕ) : Type 0 where
  pub state : s < t.shape.states
  pub shows : Shows p t s place
  pub earlier : NoneBefore p t s
  pub lower : NoneBelow p t s place

-- what a state tells of a place where that is not open; open where none does
pub data ToldOnce (t : Table) (place : ℕ) : Value → Type 0 where
  once : {v : Value} (s : ℕ) → s < t.shape.states → value_in t s place ≡ v → v ≢ Open → ToldOnce t place v
  never : ((s : ℕ) → s < t.shape.states → value_in t s place ≡ Open) → ToldOnce t place Open

-- what is known of a place at each instant that has a state
pub record KnownIn (p : Problem) (t : Table) (s place : ℕ) (v : Value) : Type 0 where
  pub known : (m : Meaning) → Copied m t → (i : ℕ) → state_at m.states m.start i ≡ s → KnownAt p m i place v

-- what is known in one state is written, at the first n places, and no other state alters
pub record StateKnown (p : Problem) (t : Table) (state n : ℕ) (before after : Table) : Type 0 where
  pub places_stay : after.places ≡ before.places
  pub shape_stays : after.shape ≡ before.shape
  pub here : (q : ℕ) → q < n → q < place_count (sizes_in p) → KnownIn p t state q (value_in after state q)
  pub others : (s q : ℕ) → s ≢ state → value_in after s q ≡ value_in before s q

-- what is known is written in the first n states
pub record StatesKnown (p : Problem) (t : Table) (n : ℕ) (known : Table) : Type 0 where
  pub places_are : known.places ≡ t.places
  pub shape_is : known.shape ≡ t.shape
  pub value : (s q : ℕ) → s < n → q < t.places → q < place_count (sizes_in p) → KnownIn p t s q (value_in known s q)
