-- What a log means as a source. Assumes nothing.
use Rattle.std.specs.Prelude.{◌≡◌, ℕ, ◌+◌, ◌%◌, ◌<◌, cond, ◌&&◌, ◌⊎◌, List, [], ◌∷◌, ◌++◌, length, take, ◌==◌, ◌≢◌, nat_lt, slice_index}
use Rattle.std.specs.List.{flat_map}
use Rattle.lasso.specs.declared.value.Value.{Value}
use Rattle.lasso.specs.declared.value.Value.TheVariants.{No, Open, Yes}
use Rattle.source.specs.Meanings.{Meaning}
use Rattle.logs.specs.Logs.{place_of, Said}

-- a place that had a value, after one mark more: a mark of the place itself gives it a new one
abbrev pub mark : ℕ → Value → ℕ → Value
mark p v m = cond (place_of m == p) (cond (m % 2 == 1) Yes No) v

-- the value of the latest of some marks, in their order
abbrev pub latest : ℕ → Value → List ℕ → Value
latest p v [] = v
latest p v (m ∷ ms) = latest p (mark p v m) ms

-- and of the marks of some instants
abbrev pub latest_of : ℕ → Value → List (List ℕ) → Value
latest_of p v [] = v
latest_of p v (ms ∷ rest) = latest_of p (latest p v ms) rest

-- what is known: at an instant of the log the value of the latest mark so far, open before the first mark and after the last instant
abbrev pub known : Said → ℕ → ℕ → Value
known d p i = cond (nat_lt i d.instants) (latest_of p Open (take (i + 1) d.marks)) Open

-- none of some marks is of the place p
abbrev pub NoMark : ℕ → List ℕ → Type 0
NoMark p ms = (k : ℕ) → k < length ms → place_of (slice_index ms k) ≢ p

-- the last mark of the place p among some marks, and what it says: held or not
pub record LastMark (p : ℕ) (ms : List ℕ) (v : Value) : Type 0 where
  pub earlier : List ℕ
  pub last : ℕ
  pub later : List ℕ
  pub split : ms ≡ earlier ++ last ∷ later
  pub here : place_of last ≡ p
  pub none_later : NoMark p later
  pub value : v ≡ cond (last % 2 == 1) Yes No

-- a value is what the latest mark says, and open where there is no mark
abbrev pub FromLatest : ℕ → List ℕ → Value → Type 0
FromLatest p ms v = (NoMark p ms × (v ≡ Open)) ⊎ LastMark p ms v

-- all marks up to an instant, in their order
abbrev pub marks_to : Said → ℕ → List ℕ
marks_to d i = flat_map (λ ms. ms) (take (i + 1) d.marks)

-- a state for each instant, and one open state more that follows itself
abbrev pub log_meaning : Said → Meaning
log_meaning d = record { places = d.places; states = d.instants + 1; start = d.instants; value = λ p s. cond (nat_lt p d.places && nat_lt s d.instants) (latest_of p Open (take (s + 1) d.marks)) Open }
