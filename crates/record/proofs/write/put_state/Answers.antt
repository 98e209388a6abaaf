use Rattle.std.proofs.Common.{◌≡◌, ◌≤◌, length, sym, ap, ◌∙◌, append-nil, rules}
use Rattle.trace.specs.Tables.{most_places}
use Rattle.numbers.specs.Numbers.{encode}
use Rattle.record.specs.Records.{helds}
use Rattle.record.specs.Writing.{state_of, front, SoFar}
use Rattle.record.proofs.Rows.{front_all}
use Rattle.record.proofs.Written.{so_far_as}
use Rattle.record.proofs.write.put_state.Goals as goal

pub returns : goal.returns
returns c =
    let row = c.args.row.now in
    let old = c.args.buffer.now in
    let n : c.count.result ≡ length (helds 0 row) = c.count.ensures.value in
    let e = c.put_number-at.ensures in
    let first : SoFar (encode c.count.result) old c.put_number-at.new.buffer c.put_number-at.result = record { bytes = e.after; end = e.len } in
    let begun = so_far_as (front row 0) first (ap encode n ∙ sym (append-nil (encode (length (helds 0 row))))) in
    let l : length row ≤ most_places = search rules in
    let s = so_far_as (state_of row) (c.put_places.ensures old begun) (front_all row most_places l) in
    record { len = s.end; after = s.bytes }
