-- What a signature keeps of its declarations, for src/signature. Assumes nothing.
use Rattle.std.specs.Prelude.{◌≡◌, ℕ, None}
use Rattle.relations.specs.declared.declarations.Declarations.{Declarations}
use Rattle.relations.specs.declared.signature.Signature.{Signature}
use Rattle.relations.specs.Declarations.{atoms_of, relations_of}
use Rattle.relations.specs.Free.{fitness}

-- the declarations and the horizon go together, and are those of the signature
pub record Fits (d : Declarations) (h : ℕ) (s : Signature) : Type 0 where
  pub fits : fitness (atoms_of d) (relations_of d) h ≡ None
  pub declared : s.declared ≡ d
  pub horizon : s.horizon ≡ h
