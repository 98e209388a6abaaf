-- What is declared so far, for src/declare. Assumes nothing.
use Rattle.std.specs.Prelude.{ℕ, Bool, cond, List, [], ◌∷◌, ◌++◌, length, Some, None, Ok, Err, Option, Result, nat_lt}
use Rattle.faults.specs.declared.Fault.{Fault}
use Rattle.faults.specs.declared.Fault.TheVariants.{NameKnown, OverLimit, TooManyFreePlaces, LowerOutsideUpper}
use Rattle.relations.specs.declared.declarations.Declarations.{Declarations}
use Rattle.relations.specs.declared.relation.Arity.{Arity}
use Rattle.relations.specs.declared.free.Unfit.{Unfit}
use Rattle.relations.specs.declared.free.Unfit.TheVariants as unfitness
use Rattle.relations.specs.declared.signature.Signature.{Signature}
use Rattle.relations.specs.Relations.{Declared, arity_of}
use Rattle.relations.specs.Declarations.{atoms_of, relations_of, declares}
use Rattle.relations.specs.Free.{fitness}
use Rattle.tokens.specs.Cursors.{Cursor}
use Rattle.tokens.specs.Outcomes.{Outcome, ok, fail, Change, changed, unfit}

-- the names of the atoms, and the relations
pub record Known : Type 0 where
  pub atoms : List (List ℕ)
  pub relations : List Declared

unfoldable pub known : Declarations → Known
known d = record { atoms = atoms_of d; relations = relations_of d }

-- a name is that of an atom or a relation
abbrev pub taken : List ℕ → Known → Bool
taken x k = declares k.atoms k.relations x

-- a name is new
abbrev pub unknown : List ℕ → ℕ → Known → Result (Unit {0}) Fault
unknown x p k = cond (taken x k) (Err (NameKnown p)) (Ok tt)

-- an atom more, if its name is new and there is room
unfoldable pub atomed : List ℕ → ℕ → Known → Change Known (Unit {0})
atomed x p k =
    cond (taken x k) (unfit (NameKnown p))
    (cond (nat_lt (length k.atoms) 8) (changed tt (record { atoms = k.atoms ++ x ∷ []; relations = k.relations })) (unfit (OverLimit p)))

-- a relation may have a name: it is new, and there is room
unfoldable pub nameable : List ℕ → ℕ → Known → Result (Unit {0}) Fault
nameable x p k = cond (taken x k) (Err (NameKnown p)) (cond (nat_lt (length k.relations) 12) (Ok tt) (Err (OverLimit p)))

-- a relation more, where there is room
unfoldable pub related : Declared → Known → Known
related r k = cond (nat_lt (length k.relations) 12) (record { atoms = k.atoms; relations = k.relations ++ r ∷ [] }) k

abbrev pub arity_from : Option Arity → ℕ → Result Arity Fault
arity_from None p = Err (OverLimit p)
arity_from (Some a) p = Ok a

-- a number as an arity
unfoldable pub arity_given : ℕ → ℕ → Result Arity Fault
arity_given n p = arity_from (arity_of n) p

abbrev pub within : Option ℕ → Result (Unit {0}) Fault
within None = Ok tt
within (Some p) = Err (LowerOutsideUpper p)

abbrev pub unfit_fault : Unfit → ℕ → Fault
unfit_fault unfitness.Limit p = OverLimit p
unfit_fault unfitness.FreePlaces p = TooManyFreePlaces p

-- what is declared, with a horizon
pub record Framed : Type 0 where
  pub atoms : List (List ℕ)
  pub relations : List Declared
  pub horizon : ℕ

unfoldable pub framed : Signature → Framed
framed s = record { atoms = atoms_of s.declared; relations = relations_of s.declared; horizon = s.horizon }

-- what was read of a horizon
abbrev pub framed_told : Result Signature Fault → Cursor → Outcome Framed (Unit {0})
framed_told (Ok s) c = ok tt c (framed s)
framed_told (Err f) c = fail f c

abbrev pub fitting : Option Unfit → Known → ℕ → ℕ → Result Framed Fault
fitting None k n p = Ok (record { atoms = k.atoms; relations = k.relations; horizon = n })
fitting (Some u) k n p = Err (unfit_fault u p)

-- a number as the horizon
unfoldable pub horizon_given : Known → ℕ → ℕ → Result Framed Fault
horizon_given k n p = fitting (fitness k.atoms k.relations n) k n p
