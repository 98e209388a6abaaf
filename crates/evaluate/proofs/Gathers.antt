-- What a quantifier says of one atom more.
use Rattle.std.proofs.Common.{◌≡◌, ℕ, ◌+◌, ◌≤◌, List, replicate, sym, refl, ap, ap₂, ◌∙◌, add-one, arith}
use Rattle.std.proofs.lemmas.List.{get_or-replicate}
use Rattle.lasso.specs.declared.value.Value.{Value}
use Rattle.lasso.specs.declared.value.Value.TheVariants.{No, Yes}
use Rattle.lasso.specs.Values.{not}
use Rattle.problem.specs.declared.node.Quantifier.{Quantifier}
use Rattle.problem.specs.declared.node.Quantifier.TheVariants as quantifier
use Rattle.meaning.specs.Tables.{Table, table_at, highest, lowest, quantified_value}
use Rattle.meaning.specs.Rows.{Row, RowIs, not_row}
use Rattle.evaluate.specs.Shown.{of_none, gathered}

none : (q : Quantifier) (d f : Table) → of_none q ≡ quantified_value q 0 d f
unfolding highest lowest
none quantifier.All d f = refl
none quantifier.Some d f = refl

more : (q : Quantifier) (m : ℕ) (d f : Table) → gathered q (quantified_value q m d f) (d m) (f m) ≡ quantified_value q (m + 1) d f
unfolding highest lowest
more quantifier.All m d f = sym (ap (λ (x : ℕ). quantified_value quantifier.All x d f) (add-one m))
more quantifier.Some m d f = sym (ap (λ (x : ℕ). quantified_value quantifier.Some x d f) (add-one m))

pub no_atom : (q : Quantifier) (w : ℕ) (row : List Value) (d : ℕ → Table) (f : ℕ → Row) → RowIs w row (λ i. of_none q) → RowIs w row (λ i. quantified_value q 0 (d i) (λ a. f a i))
no_atom q w row d f h i k = h i k ∙ none q (d i) (λ a. f a i)

pub atom_more :
    (q : Quantifier) (w m : ℕ) (row member body new : List Value) (d : ℕ → Table) (f : ℕ → Row) → RowIs w row (λ i. quantified_value q m (d i) (λ a. f a i)) →
    RowIs w member (λ i. d i m) → RowIs w body (f m) → RowIs w new (λ i. gathered q (table_at row i) (table_at member i) (table_at body i)) →
    RowIs w new (λ i. quantified_value q (m + 1) (d i) (λ a. f a i))
atom_more q w m row member body new d f old e g h i k =
    h i k
    ∙ ap (λ (x : Value). gathered q x (table_at member i) (table_at body i)) (old i k)
    ∙ ap₂ (gathered q (quantified_value q m (d i) (λ a. f a i))) (e i k) (g i k)
    ∙ more q m (d i) (λ a. f a i)

-- the rows that are no everywhere, and yes everywhere
pub no_row : (w : ℕ) (vs : List Value) → w ≤ 85 → vs ≡ replicate 85 No → RowIs w vs (λ i. No)
no_row w vs few e i h = ap (λ (xs : List Value). table_at xs i) e ∙ get_or-replicate 85 i No No (omega arith)

pub yes_row : (w : ℕ) (vs row : List Value) → RowIs w vs (λ i. No) → RowIs w row (not_row (table_at vs)) → RowIs w row (λ i. Yes)
yes_row w vs row z h i k = h i k ∙ ap not (z i k)
