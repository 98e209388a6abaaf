-- The sizes of the first relations, added up.
use Rattle.std.proofs.Common.{◌≡◌, ℕ, zero, suc, ◌+◌, ◌*◌, ◌≤◌, List, [], ◌∷◌, length, map, get_or, sum, refl, ap, arith}
use Rattle.std.proofs.lemmas.List.{length-map}
use Rattle.std.proofs.lemmas.List.FromFn.{sum_by-map-range_with_len_more}
use Rattle.std.specs.List.{range_with_len}
use Rattle.problem.specs.declared.problem.Problem.{Problem}
use Rattle.relations.specs.declared.relation.Arity.{Arity}
use Rattle.relations.specs.declared.relation.Arity.TheVariants.{One, Two}
use Rattle.relations.specs.Free.{size_of, sizes}
use Rattle.problem.specs.Problems.{atoms_in, relations_in, sizes_in}
use Rattle.relations.specs.Relations.{Declared, atom_name}
use native.Mathlib.Nat.{mul-le-mul}
use Rattle.places.specs.Places.{before}
use Rattle.places.proofs.Numbering.{before_more, few_relations, sizes_len}

-- read one by one
abbrev pub read_sizes : List ℕ → ℕ → List ℕ
read_sizes ss n = map (λ i. get_or ss i 0) (range_with_len 0 n)

pub read_total : (ss : List ℕ) (n : ℕ) → n ≤ length ss → sum (read_sizes ss n) ≡ before ss n
read_total ss zero h = refl
read_total ss (suc n) h =
    let e : suc n ≡ n + 1 = omega arith in
    omega (arith, ap (λ k. sum (read_sizes ss k)) e, ap (before ss) e, sum_by-map-range_with_len_more (λ x. x) (λ i. get_or ss i 0) 0 n n (omega arith), before_more ss n (omega arith), read_total ss n (omega arith))

few_of : (n : ℕ) (a : Arity) → n ≤ 8 → size_of n a ≤ 64
few_of n One h = omega (arith, h)
few_of n Two h = omega (arith, mul-le-mul h h)

few_at : (n : ℕ) (rs : List Declared) (i : ℕ) → n ≤ 8 → get_or (sizes n rs) i 0 ≤ 64
few_at n [] i h = omega arith
few_at n (r ∷ rs) zero h = few_of n r.arity h
few_at n (r ∷ rs) (suc i) h = few_at n rs i h

few_atoms : (p : Problem) → length (atoms_in p) ≤ 8
few_atoms p =
    let d = p.draft.signature.declared in
    omega (arith, length-map d.atoms.items atom_name, d.atoms.ok.0, d.few_atoms)

few_sum : (n : ℕ) (rs : List Declared) (i : ℕ) → n ≤ 8 → i ≤ length (sizes n rs) → before (sizes n rs) i ≤ 64 * i
few_sum n rs zero a h = omega arith
few_sum n rs (suc i) a h =
    let e : suc i ≡ i + 1 = omega arith in
    omega (arith, ap (before (sizes n rs)) e, before_more (sizes n rs) i (omega arith), few_at n rs i a, few_sum n rs i a (omega arith))

-- no problem has more than 768 of them
pub few_before : (p : Problem) (i : ℕ) → i ≤ length (relations_in p) → before (sizes_in p) i ≤ 768
few_before p i h = omega (arith, few_sum (length (atoms_in p)) (relations_in p) i (few_atoms p) (omega (arith, sizes_len p)), few_relations p)
