-- The meanings of the blank source, of a trace and of the first instants of a trace. Assumes nothing.
use Rattle.std.specs.Prelude.{ℕ, ◌+◌, cond, ◌&&◌, nat_lt}
use Rattle.lasso.specs.declared.value.Value.{Value}
use Rattle.lasso.specs.declared.value.Value.TheVariants.{Open}
use Rattle.lasso.specs.Values.{of_bool}
use Rattle.trace.specs.declared.trace.Trace.{Trace}
use Rattle.trace.specs.Traces.{held_in, behaviour}
use Rattle.source.specs.Meanings.{Meaning}

-- nothing is known, for ever
abbrev pub nothing_known : ℕ → ℕ → Value
nothing_known p i = Open

-- a behaviour is known, for ever
abbrev pub all_known : Trace → ℕ → ℕ → Value
all_known t p i = of_bool (behaviour t i p)

-- the first m instants of a behaviour are known, and nothing after them
abbrev pub first_known : Trace → ℕ → ℕ → ℕ → Value
first_known t m p i = cond (nat_lt i m) (of_bool (behaviour t i p)) Open

-- one state, all open
abbrev pub blank_meaning : ℕ → Meaning
blank_meaning n = record { places = n; states = 1; start = 0; value = λ p s. Open }

-- the states of the trace
abbrev pub trace_meaning : Trace → Meaning
trace_meaning t = record { places = t.places; states = t.shape.states; start = t.shape.loop_start; value = λ p s. cond (nat_lt p t.places && nat_lt s t.shape.states) (of_bool (held_in t s p)) Open }

-- a state for each of the first m instants, and one open state more that follows itself
abbrev pub first_meaning : Trace → ℕ → Meaning
first_meaning t m = record { places = t.places; states = m + 1; start = m; value = λ p s. cond (nat_lt p t.places && nat_lt s m) (of_bool (behaviour t s p)) Open }
