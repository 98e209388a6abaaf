use Rattle.std.proofs.Common.{ℕ}
use Rattle.evaluate.specs.declared.few.Entry.{Entry}
use Rattle.evaluate.specs.declared.kept.States.{States}
use Rattle.evaluate.specs.Known.{StatesAre}
use Rattle.evaluate.specs.Kept.{RowKept}
use Rattle.evaluate.proofs.Puts.{none_right}
use Rattle.evaluate.proofs.evaluation.blank.Goals as goal

pub invariant_of-result : goal.invariant_of-result
invariant_of-result c =
    let s = c.args.setting in
    record {
      known = none_right (StatesAre s.atoms.count s.problem.now s.table.now) 256 _ c.nothing.ensures;
      listed = none_right (λ (m : ℕ) (x : Entry (States 128)). StatesAre s.atoms.count s.problem.now s.table.now x.node x.item) 64 _ c.nothing-2.ensures;
      kept = none_right (RowKept s.atoms.count s.window s.problem.now s.table.now) 256 _ c.nothing-3.ensures;
    }
