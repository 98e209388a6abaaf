-- Rows over the window of a lasso, and the value of a formula at an instant.
use Rattle.std.proofs.Common.{ℕ, ◌+◌, ◌-◌, ◌<◌, ◌≤◌, List, slice_set, add-mul, one-mul, mul-le-mul_right, arith}
use Rattle.std.proofs.Math.Nat.{le-mul_of_pos_right}
use Rattle.lasso.specs.declared.value.Value.{Value}
use Rattle.lasso.specs.Lassos.{path}
use Rattle.meaning.specs.Formulas.{arity, Formula, tested, compared, prefixed, joined, quantified, depth}
use Rattle.meaning.specs.Tuples.{tuples}
use Rattle.meaning.specs.Meaning.{Path, Has, Reaches}
use Rattle.meaning.specs.Repeats.{RepeatsFrom}
use Rattle.meaning.specs.RowLaws.{window, RowsRight, FormulasStand}
use Rattle.meaning.specs.Laws.{ValueOnLasso}
use Rattle.meaning.specs.Rows.{Shows}
use Rattle.meaning.specs.Evaluation.{formula_row}
use Rattle.meaning.proofs.Shown.{shown_value}
use Rattle.meaning.proofs.TableLaws.{tested_shown, compared_shown, quantified_shown}
use Rattle.meaning.proofs.Expressions.{has_value}
use Rattle.meaning.proofs.Repetition.{later}
use Rattle.meaning.proofs.Periods.{reaches_again}
use Rattle.meaning.proofs.Windows.{prefixed_shows, joined_shows}

pub round_fits : (k l d : ℕ) → k - l ≤ window k l d
round_fits k l d = omega (arith, add-mul d 1 (k - l), one-mul (k - l))

pub last_round : (n k l : ℕ) (at : ℕ → ℕ → Value) → l < k → (d : ℕ) (f : Formula) (e : List ℕ) → depth f ≤ d → RepeatsFrom (Reaches n (path k l at) f e) (window k l d - (k - l)) (k - l)
last_round n k l at ok d f e h =
    later (reaches_again n k l at ok f e) (window k l d - (k - l))
    (omega (arith, add-mul d 1 (k - l), one-mul (k - l), mul-le-mul_right (k - l) h))

pub rows_right : RowsRight
rows_right = record {
  prefixed = λ n k l at ok d x f e a h s. prefixed_shows x (omega arith) (round_fits k l d) (last_round n k l at ok d f e h) s;
  joined = λ n k l at ok d x f g e a b h m s z.
      joined_shows x (omega arith) (round_fits k l d) (last_round n k l at ok d f e h) (last_round n k l at ok d g e m) s z;
}

module _ (n k l : ℕ) (at : ℕ → ℕ → Value) (ok : l < k) (d : ℕ) where
  abbrev π : Path
  π = path k l at

  abbrev w : ℕ
  w = window k l d

  pub formula_shows : (f : Formula) (e : List ℕ) → depth f ≤ d → Shows w (Reaches n π f e) (formula_row n w (k - l) π f e)
  formula_shows (tested q a) e h = record {
    value = λ i b. tested_shown {P = Has n π a e i} q (tuples n (arity a)) (λ r c. has_value n π a e i r);
  }
  formula_shows (compared c a b) e h = record {
    value = λ i m. compared_shown {P = Has n π a e i} {Q = Has n π b e i} c (tuples n (arity a)) (λ r o. has_value n π a e i r) (λ r o. has_value n π b e i r);
  }
  formula_shows (prefixed x f) e h =
      prefixed_shows x (omega arith) (round_fits k l d) (last_round n k l at ok d f e (omega arith)) (formula_shows f e (omega arith))
  formula_shows (joined x f g) e h =
      joined_shows x (omega arith) (round_fits k l d) (last_round n k l at ok d f e (omega arith)) (last_round n k l at ok d g e (omega arith))
      (formula_shows f e (omega arith)) (formula_shows g e (omega arith))
  formula_shows (quantified q x a f) e h = record {
    value = λ i b.
        quantified_shown {P = Has n π a e i} {F = λ c u. Reaches n π f (slice_set e x c) u i} q n (λ r c. has_value n π a e i r)
        (λ c m. (formula_shows f (slice_set e x c) h).value i b);
  }

pub formulas_stand : FormulasStand
formulas_stand n k l at ok d f e h = formula_shows n k l at ok d f e h

-- a window that has the instant
in_window : (k l d i : ℕ) → l < k → i < window k l (d + i)
in_window k l d i ok =
    let h : 1 ≤ k - l = omega arith in
    omega (arith, le-mul_of_pos_right (d + i + 1) h)

pub value_on_lasso : ValueOnLasso
value_on_lasso n k l at ok f e i =
    let d : ℕ = depth f + i in
    let s = (formula_shows n k l at ok d f e (omega arith)).value i (in_window k l (depth f) i ok) in
    (formula_row n (window k l d) (k - l) (path k l at) f e i, shown_value (λ t. Reaches n (path k l at) f e t i) _ s)
