-- What a reader of numbers answers, and where it then stands. Assumes nothing.
use Rattle.std.specs.Prelude.{◌≡◌, ℕ, Ok, Err, Result, MatchResult}
use Rattle.faults.specs.declared.Fault.{Fault}
use Rattle.numbers.specs.Numbers.{Number}

-- the answer is what a definition says: a number, and the reader stands after it; or a refusal, and it stands where it stood
abbrev pub Answers : Result Number Fault → ℕ → Result ℕ Fault → ℕ → Type 0
Answers says at answer next = MatchResult answer (λ n. says ≡ Ok (record { value = n; next = next })) (λ f. (says ≡ Err f) × (next ≡ at))
