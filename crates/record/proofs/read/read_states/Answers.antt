use Rattle.std.proofs.Common.{sym, ap, ◌∙◌, arith}
use Rattle.std.proofs.lemmas.Result.{err_from_is_err_and}
use Rattle.numbers.specs.Lists.{list}
use Rattle.record.specs.Records.{itself}
use Rattle.record.proofs.Taken.{read_row, read_wrong}
use Rattle.record.proofs.read.read_states.Goals as goal

pub returns-in_err-read_state-clause-cases : goal.returns-in_err-read_state-clause-cases
returns-in_err-read_state-clause-cases c =
    let q = err_from_is_err_and c.from_residual.result c.from_residual.ensures.1 in
    let h = c.args.header in
    let i = c.loop-row.invariant in
    let e = ap (λ b. list itself b h.places c.loop-row.reader.at) (sym i.0) ∙ c.in_err-read_state.ensures.cases in
    rw (q.1, q.2) (read_wrong c.args.reader.now.bytes.now h.places h.shape.states c.args.reader.now.at c.loop-row.row-index c.loop-row.reader.at c.loop-row.row-items _ (omega arith) i.1 e)

pub loop-row-preserved : goal.loop-row-preserved
loop-row-preserved c =
    let h = c.args.header in
    let i = c.loop-row.invariant in
    let e = ap (λ b. list itself b h.places c.loop-row.reader.at) (sym i.0) ∙ c.in_ok-read_state.ensures.cases in (
      c.read_state.ensures.same ∙ i.0,
      read_row c.args.reader.now.bytes.now h.places h.shape.states c.args.reader.now.at c.loop-row.row-index c.loop-row.reader.at c.loop-row.row-items c.read_state.new.row c.read_state.new.reader.at (omega arith) i.1 e
          c.in_ok-read_state.ensures.inside,
    )
