use Rattle.std.proofs.Common.{sym, subst}
use Rattle.problem.specs.declared.node.Quantifier.{Quantifier}
use Rattle.meaning.specs.Rows.{RowIs}
use Rattle.evaluate.specs.Shown.{of_none}
use Rattle.evaluate.proofs.Gathers.{no_row, yes_row}
use Rattle.evaluate.proofs.gathering.of_none.Goals as goal

pub returns-in-All : goal.returns-in-All
returns-in-All c =
    let w = c.args.window in
    subst (λ (q : Quantifier). RowIs w.instants c.prefixed.result.values (λ i. of_none q)) (sym c.in-All.is)
    (yes_row w.instants c.blank.result.values c.prefixed.result.values (no_row w.instants c.blank.result.values w.few c.blank.ensures) c.prefixed.ensures)

pub returns-in-Some : goal.returns-in-Some
returns-in-Some c =
    let w = c.args.window in
    subst (λ (q : Quantifier). RowIs w.instants c.blank-in-Some.result.values (λ i. of_none q)) (sym c.in-Some.is)
    (no_row w.instants c.blank-in-Some.result.values w.few c.blank-in-Some.ensures)
