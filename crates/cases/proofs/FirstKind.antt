-- The kind that a word names, as the first of the list whose word it is.
use Rattle.std.proofs.Common.{◌≡◌, ℕ, List, [], ◌∷◌, true, false, Some, None, Option, sym, ◌≢◌}
use Rattle.std.specs.Str.{bytes_eq}
use Rattle.std.specs.List.{find}
use Rattle.std.proofs.lemmas.Bool.{cond_both}
use Rattle.std.proofs.lemmas.Bool.Decides.{not_from_Decides}
use Rattle.std.proofs.lemmas.Slice.Eq.{bytes_eq-Decides}
use Rattle.cases.specs.declared.kind.Kind.{Kind}
use Rattle.cases.specs.declared.kind.Kind.TheVariants.{Record, Log, Text, Verdict}
use Rattle.cases.specs.Kinds.{spelt, IsKind}

abbrev pub kinds : List Kind
kinds = Record ∷ Log ∷ Text ∷ Verdict ∷ []

abbrev pub first : List ℕ → List Kind → Option Kind
first s ks = find (λ k. bytes_eq (spelt k) s) ks

same : (s : List ℕ) (k : Kind) → bytes_eq (spelt k) s ≡ true → s ≡ spelt k
same s k e = sym ((bytes_eq-Decides (spelt k) s).0 e)

other : (s : List ℕ) (k : Kind) → bytes_eq (spelt k) s ≡ false → s ≢ spelt k
other s k e h = not_from_Decides (bytes_eq (spelt k) s) (bytes_eq-Decides (spelt k) s) e (sym h)

pub first_kind : (s : List ℕ) → IsKind s (first s kinds)
first_kind s =
    cond_both (bytes_eq (spelt Record) s) (Some Record) (first s (Log ∷ Text ∷ Verdict ∷ [])) (IsKind s) (same s Record) (λ a.
    cond_both (bytes_eq (spelt Log) s) (Some Log) (first s (Text ∷ Verdict ∷ [])) (IsKind s) (same s Log) (λ b.
    cond_both (bytes_eq (spelt Text) s) (Some Text) (first s (Verdict ∷ [])) (IsKind s) (same s Text) (λ d.
    cond_both (bytes_eq (spelt Verdict) s) (Some Verdict) None (IsKind s) (same s Verdict) (λ e.
    (other s Record a, other s Log b, other s Text d, other s Verdict e)))))
