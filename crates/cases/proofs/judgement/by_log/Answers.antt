use Rattle.std.proofs.Common.{◌≡◌, rules, subst, sym, ap, ◌∙◌, Ok, Err}
use Rattle.std.proofs.lemmas.Result.{MatchResult-at_ok}
use Rattle.logs.specs.Logs.{said}
use Rattle.logs.specs.Meanings.{log_meaning}
use Rattle.cases.specs.declared.judgement.NoVerdict.TheVariants.{LogRefused}
use Rattle.cases.specs.Judgements.{ByMeaning, ByBytes, log_refused, log_read}
use Rattle.cases.proofs.Results.{err_then}
use Rattle.cases.proofs.judgement.by_log.Goals as goal

pub returns-in_err-map_err : goal.returns-in_err-map_err
returns-in_err-map_err c =
    let y = c.in_err-map_err.field-0.0 in
    let z : c.from_residual.result ≡ Err y = search rules in
    let t = err_then _ _ _ LogRefused c.read.result c.map_err.result y c.map_err.ensures.cases c.read.ensures c.in_err-map_err.was (λ e d k. search rules) in
    subst (λ o. ByBytes c.args.problem.now c.args.bytes.now o) (sym (z ∙ ap (λ d. Err d) t.1)) (log_refused t.2.0)

pub returns : goal.returns
returns c =
    let k : c.read.result ≡ Ok tt = search rules in
    let r = MatchResult-at_ok _ _ _ k c.read.ensures in
    log_read r.0 (subst (λ b. ByMeaning c.args.problem.now (log_meaning (said b)) c.by_source.result) r.1 c.by_source.ensures)
