-- Rows that are equal hold the same places.
use Rattle.std.proofs.Common.{◌≡◌, ℕ, Bool, false, List, [], length, get_or, refl, ap, Decides}
use lib.Pointwise.{pointwise}
use Rattle.std.specs.Bool.{beq}
use Rattle.std.specs.Cmp.{booleans_Decides}
use Rattle.std.proofs.lemmas.List.{ext_get_or}
use Rattle.std.proofs.lemmas.Slice.Eq.{slice_eq-Decides}
use Rattle.lasso.specs.Lassos.{state_at}
use Rattle.trace.specs.Tables.{Alike}

module _ (k l : ℕ) (held : List (List Bool)) (i j : ℕ) where
  abbrev row_at : ℕ → List Bool
  row_at n = get_or held (state_at k l n) []

  -- equal rows at two instants; `grind` takes this at the first part, which always holds
  pub rows_alike : length (row_at i) ≡ length (row_at j) → (pointwise beq (row_at i) (row_at j) ≡ pointwise beq (row_at i) (row_at j)) × Decides (pointwise beq (row_at i) (row_at j)) (Alike k l held i j)
  rows_alike e =
      let d = slice_eq-Decides booleans_Decides (row_at i) (row_at j) _ refl in
      (refl, (λ t. record { same = λ p. ap (λ row. get_or row p false) (d.0 t) }, λ a. d.1 (ext_get_or false (row_at i) (row_at j) e (λ p _. a.same p))))
