-- What is known of a problem by a source, and where the two contradict each other. Assumes nothing.
use Rattle.std.specs.Prelude.{◌≡◌, ◌≢◌, ℕ, ◌<◌, ◌≤◌, ◌⊎◌, true, false}
use Rattle.lasso.specs.declared.value.Value.{Value}
use Rattle.lasso.specs.declared.value.Value.TheVariants.{No, Open, Yes}
use Rattle.faults.specs.declared.Fault.{Fault}
use Rattle.faults.specs.declared.Fault.TheVariants.{PlaceCountsDiffer, Contradiction}
use Rattle.lasso.specs.declared.time.Instant.{Instant}
use Rattle.source.specs.Meanings.{Meaning, told_at}
use Rattle.problem.specs.declared.problem.Problem.{Problem}
use Rattle.problem.specs.Problems.{sizes_in}
use Rattle.places.specs.Places.{place_count}
use Rattle.places.specs.Asked.{FixedAt, BoundAt}

-- one is yes and the other no
abbrev pub Opposed : Value → Value → Type 0
Opposed a b = ((a ≡ No) × (b ≡ Yes)) ⊎ ((a ≡ Yes) × (b ≡ No))

-- at an instant it shows that the source contradicts the bounds of a place, or tells a fixed place yes and no
pub data Clash (p : Problem) (m : Meaning) (i place : ℕ) : Type 0 where
  against_bounds : {b : Value} → BoundAt p place b → Opposed b (told_at m place i) → Clash p m i place
  yes_and_no : {j : ℕ} → FixedAt p place true → j ≤ i → Opposed (told_at m place j) (told_at m place i) → Clash p m i place

-- the source fits the problem
pub record Fits (p : Problem) (m : Meaning) : Type 0 where
  pub places : m.places ≡ place_count (sizes_in p)
  pub no_clash : (i place : ℕ) → Clash p m i place → ⊥

-- the earliest instant at which a contradiction shows, and there the lowest place
pub record FirstClash (p : Problem) (m : Meaning) (i place : ℕ) : Type 0 where
  pub clash : Clash p m i place
  pub first : (j q : ℕ) → Clash p m j q → (i < j) ⊎ ((i ≡ j) × (place ≤ q))

-- why a source does not fit: the place counts are compared first
pub data Misfit (p : Problem) (m : Meaning) : Fault → Type 0 where
  counts_differ : (m.places ≡ place_count (sizes_in p) → ⊥) → Misfit p m PlaceCountsDiffer
  contradicts : {i : Instant} {place : ℕ} → m.places ≡ place_count (sizes_in p) → FirstClash p m i.0 place → Misfit p m (Contradiction place i)

-- what is known of a place at an instant: what the bounds settle; else of a mutable place what the source says then,
-- and of a fixed one what it says at any instant where that is not open
pub data KnownAt (p : Problem) (m : Meaning) (i place : ℕ) : Value → Type 0 where
  settled : {b : Value} → BoundAt p place b → b ≢ Open → KnownAt p m i place b
  told : BoundAt p place Open → FixedAt p place false → KnownAt p m i place (told_at m place i)
  told_once : {v : Value} (j : ℕ) → BoundAt p place Open → FixedAt p place true → told_at m place j ≡ v → v ≢ Open → KnownAt p m i place v
  never_told : BoundAt p place Open → FixedAt p place true → ((j : ℕ) → told_at m place j ≡ Open) → KnownAt p m i place Open

-- a path says what is known: at each place, and nothing beyond the places
pub record IsKnown (p : Problem) (m : Meaning) (path : ℕ → ℕ → Value) : Type 0 where
  pub inside : (i place : ℕ) → place < place_count (sizes_in p) → KnownAt p m i place (path i place)
  pub outside : (i place : ℕ) → place_count (sizes_in p) ≤ place → path i place ≡ Open
