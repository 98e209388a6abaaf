use Rattle.std.proofs.Common.{◌≡◌, ℕ, ◌-◌, arith, length-set}
use Rattle.lasso.specs.declared.value.Value.{Value}
use Rattle.meaning.specs.Rows.{back}
use Rattle.rows.proofs.Filled.{row_down}
use Rattle.rows.proofs.Steps.{back_more}
use Rattle.rows.proofs.row.Row.filled_back.Goals as goal

pub fill-preserved : goal.fill-preserved
fill-preserved g c = (
  simp length-set (omega arith),
  λ f h.
      let w : ℕ = c.args.end in
      let i : ℕ = c.fill.i in
      let r : Value = c.step-next.result in
      let old = c.fill.invariant.1 f h in
      let new = h (i - 1) c.fill.next r c.step-next.ensures in
      let more = back_more f c.args.seed w i (omega arith) (omega arith) in
      let e : r ≡ back f c.args.seed (w - (i - 1)) (i - 1) = cc in
      (e, row_down (λ m. back f c.args.seed (w - m) m) c.fill.values w i r (omega arith) (omega arith) old.1 e),
)
