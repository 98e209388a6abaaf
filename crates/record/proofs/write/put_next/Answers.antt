use Rattle.std.proofs.Common.{◌+◌, ◌<◌, ◌≤◌, length, sym, refl, ap, ◌∙◌, arith, length-append, length-take, length-drop, rules}
use Rattle.record.specs.Writing.{front}
use Rattle.record.proofs.Rows.{front_le, front_more}
use Rattle.record.proofs.Written.{place_then}
use Rattle.record.proofs.write.put_next.Goals as goal

pub returns : goal.returns
returns c =
    let row = c.args.row.now in
    let p = c.args.place in
    let h : p < length row = search rules in
    let n = c.put_place.ensures in
    record {
      end = ap (λ k. k + c.put_place.result) c.requires.at ∙ ap (λ k. length (front row p) + k) n.len ∙ sym (length-append (front row p) _) ∙ sym (ap length (front_more row p h));
      goes = λ old s. place_then row p old _ _ _ _ _ h s refl n.after n.len;
    }

pub slice_bounds-put_place-count : goal.slice_bounds-put_place-count
slice_bounds-put_place-count c = omega (arith, front_le c.args.row.now c.args.place, c.requires.at, c.requires.room)

pub slice_bounds-put_place-start : goal.slice_bounds-put_place-start
slice_bounds-put_place-start c =
    let h : c.args.at ≤ length c.args.buffer.now = omega (arith, front_le c.args.row.now c.args.place, c.requires.at, c.requires.room) in
    search rules

pub put_place-requires-clause-room : goal.put_place-requires-clause-room
put_place-requires-clause-room c =
    let row = c.args.row.now in
    let p = c.args.place in
    let h : p < length row = search rules in
    let m = ap length (front_more row p h) ∙ length-append (front row p) _ in
    simp (length-take, length-drop) (omega (arith, m, front_le row (p + 1), c.requires.at, c.requires.room))
