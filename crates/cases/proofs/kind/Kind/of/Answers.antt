use Rattle.std.proofs.Common.{rules, sym, subst, ◌∙◌}
use Rattle.std.specs.Str.{bytes_eq}
use Rattle.std.proofs.lemmas.Iterator.{YieldsList-from_slice}
use Rattle.std.proofs.lemmas.Iterator.Search.{find_from_yields_List}
use borrow.Author.Tests.{tests}
use Rattle.cases.specs.Kinds.{spelt, IsKind}
use Rattle.cases.proofs.FirstKind.{kinds, first_kind}
use Rattle.cases.proofs.kind.Kind.of.Goals as goal

pub returns : goal.returns
returns c =
    let s = c.args.word.now in
    subst (IsKind s) (sym (c.copied.ensures ∙ find_from_yields_List (λ k. bytes_eq (spelt k) s) _ _ _ c.find.ensures.ran (YieldsList-from_slice kinds (search rules)) (λ x b q k. search (rules, tests)))) (first_kind s)
