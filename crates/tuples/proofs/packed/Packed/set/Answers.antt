use Rattle.tuples.proofs.Unpacks.{tabled}
use Rattle.tuples.proofs.packed.Packed.set.Goals as goal

pub returns : goal.returns
returns g c = tabled c.args.self.now c.args.atoms.count c.args.arity c.of_values.result c.values.result c.args.atoms.few c.requires.few c.of_values.ensures.arity c.of_values.ensures.values c.values.ensures
