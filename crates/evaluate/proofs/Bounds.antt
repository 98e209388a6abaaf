-- What the sort of a node says, and that of the last.
use Rattle.std.specs.List.{slice_get}
use Rattle.std.specs.Option.{unwrap_or}
use Rattle.std.proofs.Common.{◌≡◌, ℕ, ◌+◌, ◌≤◌, List, length, Option, Some, None, sym, ap, ◌∙◌, arith}
use Rattle.std.proofs.lemmas.Option.{unwrap_or-slice_get, get_or_from_slice_get}
use Rattle.problem.specs.declared.sort.Sort.{Sort}
use Rattle.problem.specs.declared.problem.Problem.{Problem}
use Rattle.problem.specs.Sorts.{no_sort, sort_bound, sort_past, bound_at}
use Rattle.problem.specs.Problems.{nodes_in, sorts_in}
use Rattle.evaluate.proofs.Whole.{root_few}

pub bound_within : (ss : List Sort) (i : ℕ) (s : Sort) → slice_get ss i ≡ Some s → bound_at ss i ≡ sort_bound s
bound_within ss i s e = ap sort_bound (sym (unwrap_or-slice_get ss i no_sort) ∙ ap (λ (o : Option Sort). unwrap_or o no_sort) e)

-- beyond the last node there is no variable
pub bound_beyond : (ss : List Sort) (i : ℕ) → slice_get ss i ≡ None → bound_at ss i ≡ 0
bound_beyond ss i e = ap sort_bound (sym (unwrap_or-slice_get ss i no_sort) ∙ ap (λ (o : Option Sort). unwrap_or o no_sort) e)

pub past_within : (p : Problem) (i : ℕ) (s : Sort) → i + 1 ≡ length (nodes_in p) → slice_get (sorts_in p) i ≡ Some s → sort_past s ≤ 4
past_within p i s last e =
    let few = root_few p i last in
    let same = ap sort_past (get_or_from_slice_get (sorts_in p) i s no_sort e) in
    omega (arith, few, same)
