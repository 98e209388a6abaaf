use Rattle.std.proofs.Common.{◌≡◌, ◌+◌, ◌-◌, ◌<◌, is_ok, sym, ap, ◌∙◌, subst, arith}
use Rattle.numbers.specs.Lists.{list}
use Rattle.logs.specs.Logs.{place_of, said}
use Rattle.logs.specs.Told.{after_marks}
use Rattle.logs.proofs.Parses.{Seen, seen_list, seen_more}
use Rattle.logs.proofs.log.calls.latest_at.Goals as goal

pub sure_marks-value-requires : goal.sure_marks-value-requires
sure_marks-value-requires c =
    let bs = c.args.reader.now.bytes.now in
    let i = c.loop-done.invariant in
    let n = c.args.header.places in
    let left : 0 < (said bs).instants - c.loop-done._done = omega (arith, c.requires.headed.instants) in
    ap (λ b. is_ok (list place_of b n c.loop-done.reader.at)) i.0
    ∙ seen_list bs n ((said bs).instants - c.loop-done._done) c.loop-done.reader.at c.loop-done._done (said bs).marks left i.1

pub loop-done-preserved : goal.loop-done-preserved
loop-done-preserved c =
    let bs = c.args.reader.now.bytes.now in
    let n = c.args.header.places in
    let i = c.loop-done._done in
    let j = c.loop-done.invariant in
    let v = c.loop-done.value in
    let next = c.sure_marks-value.new.reader.at in
    let left : 0 < (said bs).instants - i = omega (arith, c.requires.headed.instants) in
    let less : (said bs).instants - i - 1 ≡ (said bs).instants - (i + 1) = omega arith in
    let e = ap (λ b. after_marks c.args.place v (list place_of b n c.loop-done.reader.at)) (sym j.0) ∙ c.sure_marks-value.ensures.value in
    let m = seen_more bs n ((said bs).instants - i) c.loop-done.reader.at i c.args.place v (said bs).marks _ left j.1 j.2 e in
    (c.sure_marks-value.ensures.same ∙ j.0, subst (λ k. Seen bs n k next (i + 1) (said bs).marks) less m.0, m.1)
