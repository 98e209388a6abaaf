-- The atoms and the relations that are declared, for src/declarations. Assumes nothing.
use Rattle.std.specs.Prelude.{ℕ, Bool, ◌||◌, List, map, is_some, vec_items}
use Rattle.names.specs.Lookups.{index_of}
use Rattle.relations.specs.declared.declarations.Declarations.{Declarations}
use Rattle.relations.specs.Relations.{Declared, atom_name, declared_of, arity_number}

-- the names of the atoms
abbrev pub atoms_of : Declarations → List (List ℕ)
atoms_of d = map atom_name (vec_items d.atoms)

-- the relations
abbrev pub relations_of : Declarations → List Declared
relations_of d = map declared_of (vec_items d.relations)

abbrev pub declared_name : Declared → List ℕ
declared_name r = r.name

-- whether a name is that of an atom or of a relation
abbrev pub declares : List (List ℕ) → List Declared → List ℕ → Bool
declares atoms rs x = is_some (index_of x atoms) || is_some (index_of x (map declared_name rs))

abbrev pub declared_arity : Declared → ℕ
declared_arity r = arity_number r.arity

-- the arities of the relations
abbrev pub arities : List Declared → List ℕ
arities rs = map declared_arity rs
