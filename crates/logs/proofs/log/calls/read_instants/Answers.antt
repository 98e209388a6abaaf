use Rattle.std.proofs.Common.{◌≡◌, ◌+◌, ◌-◌, sym, ap, ◌∙◌, subst, arith}
use Rattle.std.proofs.lemmas.Result.{err_from_is_err_and}
use Rattle.lasso.specs.declared.value.Value.TheVariants.{Open}
use Rattle.numbers.specs.Lists.{list}
use Rattle.logs.specs.Logs.{place_of}
use Rattle.logs.specs.Told.{after_marks}
use Rattle.logs.proofs.Parses.{Going, going_on, going_wrong}
use Rattle.logs.proofs.log.calls.read_instants.Goals as goal

pub returns-in_err-read_marks-clause-marks : goal.returns-in_err-read_marks-clause-marks
returns-in_err-read_marks-clause-marks c =
    let q = err_from_is_err_and c.from_residual.result c.from_residual.ensures.1 in
    let h = c.args.header in
    let i = c.loop-done.invariant in
    let e = ap (λ b. list place_of b h.places c.loop-done.reader.at) (sym i.0) ∙ c.in_err-read_marks.ensures.value in
    rw (q.1, q.2) (going_wrong c.args.reader.now.bytes.now h.places h.instants (h.instants - c.loop-done._done) c.loop-done.reader.at c.args.reader.now.at _ (omega arith) i.1 e)

pub loop-done-preserved : goal.loop-done-preserved
loop-done-preserved c =
    let bs = c.args.reader.now.bytes.now in
    let h = c.args.header in
    let i = c.loop-done.invariant in
    let next = c.read_marks.new.reader.at in
    let less : h.instants - c.loop-done._done - 1 ≡ h.instants - (c.loop-done._done + 1) = omega arith in
    let e = ap (λ b. after_marks 0 Open (list place_of b h.places c.loop-done.reader.at)) (sym i.0) ∙ c.in_ok-read_marks.ensures.value in (
      c.read_marks.ensures.same ∙ i.0,
      subst (λ k. Going bs h.places h.instants k next c.args.reader.now.at) less
          (going_on bs h.places h.instants (h.instants - c.loop-done._done) c.loop-done.reader.at c.args.reader.now.at _ (omega arith) i.1 e),
    )
