use Rattle.std.proofs.Common.{arith}
use Rattle.std.proofs.lemmas.Result.{err_from_is_err_and}
use Rattle.record.proofs.Exact.{refused_reading}
use Rattle.record.proofs.read.read_trace.Goals as goal

pub returns-in_err-lasso : goal.returns-in_err-lasso
returns-in_err-lasso c =
    let p = err_from_is_err_and c.from_residual.result c.from_residual.ensures.1 in
    rw (p.1, p.2) (refused_reading c.args.bytes.now _ (λ i. omega (arith, c.type_inv.bytes i)) c.in_err-lasso.ensures)
