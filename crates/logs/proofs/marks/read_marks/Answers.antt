use Rattle.std.proofs.Common.{◌≡◌, ◌+◌, ◌-◌, sym, ap, ◌∙◌, subst, arith}
use Rattle.std.proofs.lemmas.Result.{err_from_is_err_and}
use Rattle.logs.specs.Told.{mark_at}
use Rattle.numbers.specs.Lists.{entry}
use Rattle.logs.specs.Logs.{place_of}
use Rattle.logs.proofs.Scans.{Scanned, scan_more, scan_wrong}
use Rattle.logs.proofs.marks.read_marks.Goals as goal

pub returns-in_err-mark-clause-value : goal.returns-in_err-mark-clause-value
returns-in_err-mark-clause-value c =
    let q = err_from_is_err_and c.from_residual-in_err-mark.result c.from_residual-in_err-mark.ensures.1 in
    let a = c.args in
    let i = c.loop-done.invariant in
    let e = ap (λ b. entry place_of b c.loop-done.reader.at c.loop-done.low a.places) (sym i.0) ∙ c.in_err-mark.ensures.value in
    rw (q.1, q.2) (scan_wrong a.reader.now.bytes.now a.places a.reader.now.at a.place a.value (c.in_ok-count.count - c.loop-done._done) c.loop-done.low c.loop-done.reader.at c.loop-done.latest _ (omega arith) i.1 e)

pub loop-done-preserved : goal.loop-done-preserved
loop-done-preserved c =
    let a = c.args in
    let bs = a.reader.now.bytes.now in
    let i = c.loop-done.invariant in
    let m = c.in_ok-mark.mark in
    let next = c.read_mark.new.reader.at in
    let less : c.in_ok-count.count - c.loop-done._done - 1 ≡ c.in_ok-count.count - (c.loop-done._done + 1) = omega arith in
    let e = ap (λ b. mark_at b c.loop-done.reader.at c.loop-done.low a.places) (sym i.0) ∙ c.in_ok-mark.ensures.value in
    let s = scan_more bs a.places a.reader.now.at a.place a.value (c.in_ok-count.count - c.loop-done._done) c.loop-done.low c.loop-done.reader.at next c.loop-done.latest m (omega arith) i.1 e in (
      c.read_mark.ensures.same ∙ i.0,
      subst (λ k. Scanned bs a.places a.reader.now.at k (m.place + 1) next a.place a.value c.after-latest.result) less
          (subst (Scanned bs a.places a.reader.now.at (c.in_ok-count.count - c.loop-done._done - 1) (m.place + 1) next a.place a.value) (sym c.after-latest.ensures) s),
    )
