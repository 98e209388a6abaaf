-- What the reader of a log answers, and what it finds on its way. Assumes nothing.
use Rattle.std.specs.Prelude.{◌≡◌, ℕ, ◌%◌, ◌<◌, cond, true, List, is_ok, Ok, Err, Result, ◌==◌, ◌≢◌}
use Rattle.faults.specs.declared.Fault.{Fault}
use Rattle.lasso.specs.declared.value.Value.{Value}
use Rattle.lasso.specs.declared.value.Value.TheVariants.{No, Yes}
use Rattle.numbers.specs.Numbers.{and_then, Bytes}
use Rattle.numbers.specs.Lists.{Read, read, entry}
use Rattle.logs.specs.declared.marks.Mark.{Mark}
use Rattle.numbers.specs.Settled.{Settled}
use Rattle.source.specs.Meanings.{Means}
use Rattle.logs.specs.Logs.{place_of, Said, IsLog, log_of, parse, said}
use Rattle.logs.specs.Meanings.{latest, known, FromLatest, marks_to, log_meaning}

-- the value of a place after the marks that were read
abbrev pub after_marks : ℕ → Value → Result (Read (List ℕ)) Fault → Result (Read Value) Fault
after_marks p v (Ok r) = Ok (read (latest p v r.got) r.next)
after_marks p v (Err f) = Err f

-- the mark in a number
abbrev pub mark_in : ℕ → Mark
mark_in n = record { place = place_of n; value = cond (n % 2 == 1) Yes No }

-- a mark whose place is from `low` on and below n
abbrev pub mark_at : List ℕ → ℕ → ℕ → ℕ → Result (Read Mark) Fault
mark_at bs at low n = and_then (entry place_of bs at low n) (λ v. Ok (read (mark_in v.value) v.next))

-- bytes are accepted: they are the log of what they say, and no other bytes say it
pub record Accepted (bs : List ℕ) (d : Said) : Type 0 where
  pub says : parse bs ≡ Ok d
  pub fits : IsLog d
  pub is_log : bs ≡ log_of d
  pub one_log : (other : List ℕ) → Bytes other → parse other ≡ Ok d → other ≡ bs

-- bytes were read as a log: what they say, and the path that this means
pub record IsRead (bs : List ℕ) : Type 0 where
  pub ok : is_ok (parse bs) ≡ true
  pub accepted : Accepted bs (said bs)
  pub path : Means (log_meaning (said bs)) (said bs).places (known (said bs))
  pub latest_mark : (p i : ℕ) → i < (said bs).instants → FromLatest p (marks_to (said bs) i) (known (said bs) p i)

-- bytes are refused: they are no log, this is the fault, and a number at fault settles it whatever follows
pub record Refused (bs : List ℕ) (f : Fault) : Type 0 where
  pub why : parse bs ≡ Err f
  pub no_log : (d : Said) → IsLog d → bs ≢ log_of d
  pub settled : Settled parse bs f
