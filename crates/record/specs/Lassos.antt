-- What the reader holds of a record while it reads. Assumes nothing.
use Rattle.std.specs.Prelude.{◌≡◌, ℕ, ◌≤◌, length}
use Rattle.trace.specs.Tables.{most_places, most_states, NoneOutside}
use Rattle.record.specs.declared.read.Header.{Header}
use Rattle.record.specs.declared.read.Lasso.{Lasso}
use Rattle.record.specs.Records.{Said, rows_of}
use Rattle.record.specs.Reading.{Heading}

abbrev pub heading_as : Header → ℕ → Heading
heading_as h at = record { places = h.places; states = h.shape.states; start = h.shape.loop_start; next = at }

-- what the lasso says
abbrev pub saying_of : Lasso → Said
saying_of l = record { places = l.places; states = l.shape.states; start = l.shape.loop_start; rows = rows_of l.shape.states l.held }

-- all that makes it a trace but fewest states
pub record Fits (l : Lasso) : Type 0 where
  pub few_places : l.places ≤ most_places
  pub few_states : l.shape.states ≤ most_states
  pub tall : length l.held ≡ most_states
  pub none_outside : NoneOutside l.places l.shape.states l.held
