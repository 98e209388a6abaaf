-- The kinds of cases, and the words that they begin with. Assumes nothing.
use Rattle.std.specs.Prelude.{◌≡◌, ℕ, List, codes, Some, None, Option, ◌≢◌}
use Rattle.cases.specs.declared.kind.Kind.{Kind}
use Rattle.cases.specs.declared.kind.Kind.TheVariants.{Record, Log, Text, Verdict}

-- the word of a kind
abbrev pub spelt : Kind → List ℕ
spelt Record = codes "record"
spelt Log = codes "log"
spelt Text = codes "text"
spelt Verdict = codes "verdict"

-- the kind of a case, by its first word; none by another
abbrev pub IsKind : List ℕ → Option Kind → Type 0
IsKind word (Some Record) = word ≡ codes "record"
IsKind word (Some Log) = word ≡ codes "log"
IsKind word (Some Text) = word ≡ codes "text"
IsKind word (Some Verdict) = word ≡ codes "verdict"
IsKind word None = (word ≢ codes "record") × (word ≢ codes "log") × (word ≢ codes "text") × (word ≢ codes "verdict")
