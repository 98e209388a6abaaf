use Rattle.std.proofs.Common.{◌*◌, ◌+◌, ◌<◌, rules, sym, subst, arith}
use Rattle.tuples.specs.Packing.{packed_table}
use Rattle.tuples.proofs.Unpacks.{Unpacked, none_yet, four_more, all_unpacked}
use Rattle.tuples.proofs.packed.Packed.values.Goals as goal

pub fours-init : goal.fours-init
fours-init g c = none_yet (packed_table c.args.self.now)

pub fours-preserved : goal.fours-preserved
fours-preserved g c =
    let l : c.fours.byte < 128 = omega (arith, c.fours-test.true, c.min-byte-end.ensures) in
    subst (λ vs. Unpacked (4 * (c.fours.byte + 1)) vs (packed_table c.args.self.now)) (sym c.write_four.ensures)
    (four_more c.args.self.now c.fours.values c.fours.byte _ l c.four_at.ensures c.fours.invariant)

pub returns : goal.returns
returns g c = all_unpacked c.args.self.now c.fours.values c.fours.byte (search rules) (omega (arith, c.fours-test.false, c.min-byte-end.ensures)) c.fours.invariant
