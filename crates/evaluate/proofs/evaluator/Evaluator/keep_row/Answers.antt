use Rattle.std.proofs.Common.{sym, subst, refl}
use Rattle.meaning.specs.Trees.{no_variable}
use Rattle.evaluate.specs.Kept.{RowKept}
use Rattle.evaluate.proofs.ClosedRows.{row_closed}
use Rattle.evaluate.proofs.Puts.{Right, put_right}
use Rattle.evaluate.proofs.evaluator.Evaluator.keep_row.Goals as goal

pub invariant_of-self : goal.invariant_of-self
invariant_of-self c =
    let s = c.args.self.now in
    let g = s.setting in
    let own = row_closed g.atoms.count g.window g.problem.now g.table.now c.args.node no_variable c.formula-row.result.values c.requires.there c.requires.closed refl c.formula-row.ensures in
    record {
      known = s.known;
      listed = s.listed;
      kept = subst (Right (RowKept g.atoms.count g.window g.problem.now g.table.now)) (sym c.put_row.ensures)
          (put_right (RowKept g.atoms.count g.window g.problem.now g.table.now) s.rows.items c.args.node c.formula-row.result s.kept own);
    }
