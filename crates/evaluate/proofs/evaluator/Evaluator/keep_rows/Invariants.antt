use Rattle.std.proofs.Common.{◌≡◌}
use Rattle.evaluate.proofs.evaluator.Evaluator.keep_rows.Given as goal

abbrev pub invariant-nodes : goal.invariant-nodes
invariant-nodes l = l.self.setting ≡ l.initial.self.setting
