use Rattle.std.proofs.Common.{◌≡◌, ◌+◌, ◌-◌, true, set, sym, ap, ◌∙◌, subst, arith}
use Rattle.std.proofs.lemmas.Result.{err_from_is_err_and}
use Rattle.numbers.specs.Lists.{entry}
use Rattle.record.specs.Records.{itself}
use Rattle.record.proofs.Taken.{Filling, fill_more, fill_wrong, fill_empty}
use Rattle.record.proofs.read.read_state.Goals as goal

pub returns-in_err-place-clause-cases : goal.returns-in_err-place-clause-cases
returns-in_err-place-clause-cases c =
    let q = err_from_is_err_and c.from_residual-in_err-place.result c.from_residual-in_err-place.ensures.1 in
    let a = c.args in
    let i = c.loop-done.invariant in
    let e = ap (λ b. entry itself b c.loop-done.reader.at c.loop-done.low a.places) (sym i.0) ∙ c.in_err-place.ensures.value.0 in
    rw (q.1, q.2) (fill_wrong a.reader.now.bytes.now a.places a.reader.now.at (c.in_ok-count.count - c.loop-done._done) c.loop-done.low c.loop-done.reader.at c.loop-done.row _ (omega arith) i.1 e)

pub loop-done-preserved : goal.loop-done-preserved
loop-done-preserved c =
    let a = c.args in
    let bs = a.reader.now.bytes.now in
    let i = c.loop-done.invariant in
    let p = c.in_ok-place.place in
    let next = c.read_place.new.reader.at in
    let b = c.in_ok-place.ensures.inside in
    let less : c.in_ok-count.count - c.loop-done._done - 1 ≡ c.in_ok-count.count - (c.loop-done._done + 1) = omega arith in
    let e = ap (λ b. entry itself b c.loop-done.reader.at c.loop-done.low a.places) (sym i.0) ∙ c.in_ok-place.ensures.value in (
      c.read_place.ensures.same ∙ i.0,
      subst (λ k. Filling bs a.places a.reader.now.at k (p + 1) next (set c.loop-done.row p true)) less
          (fill_more bs a.places a.reader.now.at (c.in_ok-count.count - c.loop-done._done) c.loop-done.low c.loop-done.reader.at c.loop-done.row _ c.requires.places (omega arith) i.1 e b.0 b.1),
    )

pub returns-clause-inside : goal.returns-clause-inside
returns-clause-inside c = fill_empty c.args.reader.now.bytes.now c.args.places c.args.reader.now.at _ c.loop-done.low c.loop-done.reader.at c.loop-done.row c.loop-done.invariant.1
