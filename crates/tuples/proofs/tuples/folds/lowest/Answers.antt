use Rattle.std.proofs.Common.{ℕ, refl, ◌∙◌, rules, arith}
use Rattle.std.proofs.lemmas.Iterator.{YieldsList-from_range}
use Rattle.std.proofs.lemmas.Iterator.Consumers.{fold_from_yields_List}
use Rattle.lasso.specs.declared.value.Value.{Value}
use Rattle.lasso.specs.declared.value.Value.TheVariants.{Yes}
use Rattle.lasso.specs.Values.{smaller}
use Rattle.meaning.specs.Tables.{lowest}
use Rattle.tuples.proofs.Folds.{lowest_fold}
use Rattle.tuples.proofs.tuples.folds.lowest.Goals as goal

pub returns : goal.returns
unfolding lowest
returns g c f h =
    fold_from_yields_List _ (λ (v : Value) (r : ℕ). smaller v (f r)) Yes _ c.fold.ensures.ran (YieldsList-from_range 0 c.args.count c.args.count refl (omega arith)) (λ a x b q k. search rules)
    ∙ lowest_fold f 0 c.args.count c.args.count (omega arith)
