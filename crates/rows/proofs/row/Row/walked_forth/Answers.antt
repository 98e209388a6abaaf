use Rattle.std.proofs.Common.{◌≡◌, ℕ, sym, ◌∙◌, arith, length-set}
use Rattle.meaning.specs.Rows.{forth}
use Rattle.rows.proofs.Filled.{row_more}
use Rattle.rows.proofs.Steps.{forth_is, prior_more}
use Rattle.rows.proofs.row.Row.walked_forth.Goals as goal

pub fill-preserved : goal.fill-preserved
fill-preserved g c = (
  simp length-set (omega arith),
  λ f h.
      let i : ℕ = c.fill.i in
      let old = c.fill.invariant.1 f h in
      let new = h i c.fill.last c.step-last.result c.step-last.ensures in
      let now = forth_is f c.args.seed i in
      let e : c.step-last.result ≡ forth f c.args.seed i = cc in
      (e ∙ sym (prior_more f c.args.seed i), row_more (forth f c.args.seed) c.fill.values i c.step-last.result (omega arith) old.1 e),
)

pub returns : goal.returns
returns g c f h m l = (c.fill.invariant.1 f h).1 m (omega arith)
