-- The bytes of a name, for src/name. Assumes nothing.
use Rattle.std.specs.Prelude.{ℕ, List, take}
use Rattle.names.specs.declared.name.Name.{Name}

-- the most bytes of a name
abbrev pub most_bytes : ℕ
most_bytes = 12

-- the bytes that spell it
abbrev pub spelling : Name → List ℕ
spelling n = take n.len n.bytes
