use Rattle.std.proofs.Common.{ℕ, refl, ◌∙◌, rules, arith}
use Rattle.std.proofs.lemmas.Iterator.{YieldsList-from_range}
use Rattle.std.proofs.lemmas.Iterator.Consumers.{fold_from_yields_List}
use Rattle.lasso.specs.declared.value.Value.{Value}
use Rattle.lasso.specs.declared.value.Value.TheVariants.{No}
use Rattle.lasso.specs.Values.{greater}
use Rattle.meaning.specs.Tables.{highest}
use Rattle.tuples.proofs.Folds.{highest_fold}
use Rattle.tuples.proofs.tuples.folds.highest.Goals as goal

pub returns : goal.returns
unfolding highest
returns g c f h =
    fold_from_yields_List _ (λ (v : Value) (r : ℕ). greater v (f r)) No _ c.fold.ensures.ran (YieldsList-from_range 0 c.args.count c.args.count refl (omega arith)) (λ a x b q k. search rules)
    ∙ highest_fold f 0 c.args.count c.args.count (omega arith)
