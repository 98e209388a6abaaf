-- The steps of loops that fill a row.
use Rattle.std.proofs.Common.{◌≡◌, ℕ, ◌+◌, ◌-◌, ◌<◌, ◌≤◌, ◌≢◌, List, length, set, sym, ◌∙◌, subst, ⊎_elim, arith, get_or-set_other, get_or-set_same}
use Rattle.std.proofs.lemmas.List.Edits.{fill_by_more}
use Rattle.std.proofs.lemmas.Bool.{cases_lt}
use Rattle.lasso.specs.declared.value.Value.{Value}
use Rattle.lasso.specs.declared.value.Value.TheVariants.{No}
use Rattle.meaning.specs.Tables.{table_at}
use Rattle.meaning.specs.Rows.{Row, RowIs}

-- one more value at the end
pub row_more : (f : Row) (xs : List Value) (i : ℕ) (v : Value) → i < length xs → RowIs i xs f → v ≡ f i → RowIs (i + 1) (set xs i v) f
row_more f xs i v h old e = subst (λ (x : Value). RowIs (i + 1) (set xs i x) f) (sym e) (fill_by_more f xs i No h old)

-- one more value before those from i on
pub row_down :
    (f : Row) (xs : List Value) (w i : ℕ) (v : Value) → 0 < i → i ≤ length xs → ((m : ℕ) → i ≤ m → m < w → table_at xs m ≡ f m) → v ≡ f (i - 1) →
    (m : ℕ) → i - 1 ≤ m → m < w → table_at (set xs (i - 1) v) m ≡ f m
row_down f xs w i v pos fits old e m h k =
    ⊎_elim
    (λ lt. let ne : m ≢ i - 1 = omega arith in get_or-set_other xs (i - 1) m v No ne ∙ old m (omega arith) k)
    (λ ge.
    let q : i - 1 ≡ m = omega arith in
    subst (λ (x : ℕ). table_at (set xs (i - 1) v) x ≡ f x) q (get_or-set_same xs (i - 1) v No (omega arith) ∙ e))
    (cases_lt (i - 1) m)
