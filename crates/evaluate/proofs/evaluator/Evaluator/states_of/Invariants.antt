use Rattle.std.proofs.Common.{◌≡◌, ℕ, ◌<◌, length, slice_index_or}
use Rattle.tuples.specs.declared.packed.Packed.{Packed}
use Rattle.evaluate.specs.Known.{PackedIs}
use Rattle.evaluate.proofs.evaluator.Evaluator.states_of.Given as goal

abbrev pub invariant-states : goal.invariant-states
invariant-states g l =
    (length l.values ≡ 17)
    × ((s : ℕ) (beyond : Packed g.row.N) → s < l.s → PackedIs l.self.setting.atoms.count l.self.setting.problem.now l.self.setting.table.now l.closed.node s (slice_index_or l.values s beyond))
