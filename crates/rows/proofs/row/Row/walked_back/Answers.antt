use Rattle.std.proofs.Common.{◌≡◌, ℕ, ◌-◌, ◌∙◌, subst, ap, arith}
use Rattle.meaning.specs.Rows.{back, round}
use Rattle.rows.proofs.Steps.{back_more, round_is}
use Rattle.rows.proofs.row.Row.walked_back.Goals as goal

pub round-preserved : goal.round-preserved
round-preserved g c = (
  omega arith,
  λ f h.
      let old = c.round.invariant.1 f h in
      let new = h (c.round.i - 1) c.round.next c.step-next.result c.step-next.ensures in
      let more = back_more f c.args.seed c.instants-end.result c.round.i (omega arith) (omega arith) in
      cc,
)

pub returns : goal.returns
returns g c f h i l =
    let w = c.instants-end.result in
    let p = c.args.window.period in
    let q : c.round.i ≡ w - p = omega arith in
    let e = subst (λ (x : ℕ). c.round.next ≡ back f c.args.seed (w - x) x) q (c.round.invariant.1 f h) in
    c.filled_back.ensures f h i (omega arith)
    ∙ round_is f c.args.seed c.round.next w p i (omega arith) e
    ∙ ap (λ (x : ℕ). round x p f c.args.seed i) c.instants-end.ensures.value
