-- What a table holds, and the endless path of it, for src/table and src/copying. Assumes nothing.
use Rattle.std.specs.Prelude.{◌≡◌, ◌≢◌, ℕ, ◌<◌, cond, ◌&&◌, ◌==◌, nat_lt}
use Rattle.lasso.specs.declared.value.Value.{Value}
use Rattle.lasso.specs.declared.value.Value.TheVariants.{Open}
use Rattle.lasso.specs.declared.shape.Shape.{Shape}
use Rattle.lasso.specs.Lassos.{path}
use Rattle.source.specs.Meanings.{Meaning}
use Rattle.table.specs.declared.table.Table.{Table}
use Rattle.table.specs.Rows.{value_at}

-- the value of a place in a state; open beyond the counts
abbrev pub value_in : Table → ℕ → ℕ → Value
value_in t s p = value_at t.rows s p

-- the value of each place at each instant
abbrev pub path_of : Table → ℕ → ℕ → Value
path_of t = path t.shape.states t.shape.loop_start (value_in t)

-- all open
pub record Blank (places : ℕ) (shape : Shape) (t : Table) : Type 0 where
  pub places_are : t.places ≡ places
  pub shape_is : t.shape ≡ shape
  pub value : (s p : ℕ) → value_in t s p ≡ Open

-- one value is written, where it is within the counts
pub record Written (place state : ℕ) (v : Value) (before after : Table) : Type 0 where
  pub places_stay : after.places ≡ before.places
  pub shape_stays : after.shape ≡ before.shape
  pub value : (s p : ℕ) → value_in after s p ≡ cond (s == state && (p == place && (nat_lt place before.places && nat_lt state before.shape.states))) v (value_in before s p)

-- a table says what a source means
pub record Copied (m : Meaning) (t : Table) : Type 0 where
  pub places_are : t.places ≡ m.places
  pub states_are : t.shape.states ≡ m.states
  pub start_is : t.shape.loop_start ≡ m.start
  pub value : (s p : ℕ) → value_in t s p ≡ m.value p s

-- a table has the counts of a source
pub record Counts (m : Meaning) (t : Table) : Type 0 where
  pub places_are : t.places ≡ m.places
  pub states_are : t.shape.states ≡ m.states
  pub start_is : t.shape.loop_start ≡ m.start

-- a table says in the first n states what a source means
pub record CopiedTo (m : Meaning) (n : ℕ) (t : Table) : Type 0 where
  pub counts : Counts m t
  pub value : (s p : ℕ) → s < n → p < m.places → value_in t s p ≡ m.value p s

-- what a source means in one state is written, at the first n places, and no other state alters
pub record StateCopied (m : Meaning) (state n : ℕ) (before after : Table) : Type 0 where
  pub places_stay : after.places ≡ before.places
  pub shape_stays : after.shape ≡ before.shape
  pub here : (p : ℕ) → p < n → value_in after state p ≡ m.value p state
  pub others : (s p : ℕ) → s ≢ state → value_in after s p ≡ value_in before s p
