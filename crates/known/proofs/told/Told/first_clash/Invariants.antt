use Rattle.std.proofs.Common.{◌≡◌, None}
use Rattle.known.specs.States.{NoneBelow, NoneBefore}
use Rattle.known.proofs.told.Told.first_clash.Given as goal

abbrev pub invariant-search : goal.invariant-search
invariant-search l = record { nothing : l.first ≡ None; earlier : NoneBefore l.self.problem.now l.self.table.now l.i }

abbrev pub invariant-places : goal.invariant-places
invariant-places l = record { nothing : l.first ≡ None; lower : NoneBelow l.self.problem.now l.self.table.now l.i l.place }
