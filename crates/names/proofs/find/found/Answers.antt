use Rattle.std.proofs.Common.{rules, ◌∙◌}
use Rattle.std.specs.Str.{bytes_eq}
use Rattle.std.proofs.lemmas.Iterator.{YieldsList-from_slice}
use Rattle.std.proofs.lemmas.Iterator.Search.{position_from_yields_List}
use borrow.Author.Tests.{tests}
use Rattle.names.proofs.Finding.{index_map}
use Rattle.names.proofs.find.found.Goals as goal

pub returns : goal.returns
returns g c =
    position_from_yields_List (λ t. bytes_eq (g.T.Named.named t) c.args.name.now) _ _ _ c.position.ensures.ran (YieldsList-from_slice c.args.list.now (search rules)) (λ x b q k. search (rules, tests))
    ∙ index_map c.args.name.now g.T.Named.named c.args.list.now
