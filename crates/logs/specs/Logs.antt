-- What a log says, from its bytes. Assumes nothing.
use Rattle.std.specs.Prelude.{◌≡◌, ℕ, ◌/◌, ◌≤◌, cond, List, [], ◌++◌, length, Ok, Err, Result, nat_lt}
use Rattle.std.specs.List.{flat_map}
use Rattle.faults.specs.declared.Fault.{Fault}
use Rattle.faults.specs.declared.Fault.TheVariants.{BytesLeftOver, TooManyBytes}
use Rattle.numbers.specs.Numbers.{most_bytes, encode, and_then, within, edition}
use Rattle.numbers.specs.Lists.{Read, lists, list_bytes, Good}

abbrev pub most_instants : ℕ
most_instants = 16

-- the place of a mark: a mark is twice the place, and one more if the place is held
abbrev pub place_of : ℕ → ℕ
place_of mark = mark / 2

-- what a log says: how many places and instants, and for each instant its marks
pub record Said : Type 0 where
  pub places : ℕ
  pub instants : ℕ
  pub marks : List (List ℕ)

-- what comes before the marks, and the byte after it
pub record Heading : Type 0 where
  pub places : ℕ
  pub instants : ℕ
  pub next : ℕ

abbrev pub heading : List ℕ → Result Heading Fault
heading bs =
    and_then (edition bs) (λ a.
    and_then (within bs a 0 768) (λ n.
    and_then (within bs n.next 0 most_instants) (λ k.
    Ok (record { places = n.value; instants = k.value; next = k.next }))))

-- after the marks there is nothing left
abbrev pub ended : List ℕ → Heading → Read (List (List ℕ)) → Result Said Fault
ended bs h v = cond (nat_lt v.next (length bs)) (Err (BytesLeftOver v.next)) (Ok (record { places = h.places; instants = h.instants; marks = v.got }))

-- what bytes say as a log
abbrev pub parse : List ℕ → Result Said Fault
parse bs =
    cond (nat_lt most_bytes (length bs)) (Err TooManyBytes)
    (and_then (heading bs) (λ h. and_then (lists place_of bs h.places h.instants h.next []) (λ v. ended bs h v)))

-- what can be said: counts within their limits, and for each instant marks with ascending places below the place count
pub record IsLog (d : Said) : Type 0 where
  pub few_places : d.places ≤ 768
  pub few_instants : d.instants ≤ most_instants
  pub each : length d.marks ≡ d.instants
  pub ascending : Good place_of d.places d.marks

-- the bytes of a log: edition 1, the counts, then for each instant a count and its marks
abbrev pub log_of : Said → List ℕ
log_of d = (encode 1 ++ (encode d.places ++ encode d.instants)) ++ flat_map list_bytes d.marks

-- what bytes say, where they are a log; else no place and no instant
abbrev pub said_by : Result Said Fault → Said
said_by (Ok d) = d
said_by (Err f) = record { places = 0; instants = 0; marks = [] }

abbrev pub said : List ℕ → Said
said bs = said_by (parse bs)
