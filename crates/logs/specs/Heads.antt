-- What stands before the marks of a log, as the reader holds it. Assumes nothing.
use Rattle.std.specs.Prelude.{◌≡◌, ℕ, ◌≤◌, List, [], Ok}
use Rattle.numbers.specs.Lists.{read, lists}
use Rattle.logs.specs.declared.log.calls.Header.{Header}
use Rattle.source.specs.Meanings.{Kept}
use Rattle.logs.specs.Logs.{place_of, Heading, said}
use Rattle.logs.specs.Meanings.{log_meaning}

abbrev pub heading_as : Header → ℕ → Heading
heading_as h at = record { places = h.places; instants = h.instants; next = at }

-- the marks of all instants stand up to a byte
pub record MarksTo (bs : List ℕ) (h : Heading) (next : ℕ) : Type 0 where
  pub marks : List (List ℕ)
  pub runs : lists place_of bs h.places h.instants h.next [] ≡ Ok (read marks next)

-- it is the header of what the bytes say, and their marks stand from `next` on
pub record Headed (bs : List ℕ) (h : Header) (next : ℕ) : Type 0 where
  pub places : h.places ≡ (said bs).places
  pub instants : h.instants ≡ (said bs).instants
  pub few_places : h.places ≤ 768
  pub few_instants : h.instants ≤ 16
  pub end : ℕ
  pub marks : lists place_of bs h.places h.instants next [] ≡ Ok (read (said bs).marks end)
  pub kept : Kept (log_meaning (said bs))
