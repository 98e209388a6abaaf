use Rattle.formulas.specs.Formulas.{levels}
use Rattle.reader.proofs.Starting.{told_whole}
use Rattle.reader.proofs.text.whole_formula.Goals as goal

pub returns-clause-whole : goal.returns-clause-whole
returns-clause-whole c = told_whole levels c.formula.result _ _ c.args.parser.now.sketch c.formula.new.self.sketch _ _ c.requires c.formula.ensures
