use Rattle.std.proofs.Common.{◌∙◌, ◌≤◌, length, arith}
use Rattle.declaring.specs.Sets.{listed, outside}
use Rattle.declaring.proofs.Strays.{first_stray}
use Rattle.declaring.proofs.tuples.Tuples.outside.Goals as goal

pub returns : goal.returns
unfolding listed outside
returns c =
    let s = c.args.self.now in
    let o = c.args.other.now in
    let a : length s.places ≤ length s.set.held = grind (arith, s.set.whole) in
    let b : length s.places ≤ length o.held = grind (arith, o.whole) in
    c.first_stray.ensures ∙ first_stray s.set.held o.held s.places a b
