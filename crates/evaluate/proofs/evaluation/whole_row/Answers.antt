use Rattle.std.proofs.Common.{◌≡◌, ap, ◌∙◌}
use Rattle.evaluate.specs.declared.setting.Setting.{Setting}
use Rattle.evaluate.proofs.Whole.{setting_value}
use Rattle.evaluate.proofs.evaluation.whole_row.Goals as goal

pub returns : goal.returns
returns c =
    let s = c.keep_rows.new.self.setting in
    let same : s ≡ c.setting.result = c.keep_rows.ensures ∙ c.keep_tables.ensures ∙ c.blank-evaluator.ensures in
    setting_value s c.args.problem.now c.args.table.now c.root.result c.formula.result.values (ap (λ (x : Setting). x.problem.now) same ∙ c.setting.ensures.problem)
    (ap (λ (x : Setting). x.table.now) same ∙ c.setting.ensures.table) c.root.ensures.last c.formula.ensures
