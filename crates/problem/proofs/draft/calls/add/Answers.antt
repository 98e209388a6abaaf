use Rattle.std.proofs.Common.{List, map, sym, subst}
use Rattle.problem.specs.declared.part.Part.{Part}
use Rattle.problem.specs.Sorts.{part_node, part_sort, Judged}
use Rattle.problem.specs.Drafts.{arities_of}
use Rattle.problem.proofs.Judging.{judged_parts}
use Rattle.problem.proofs.draft.calls.add.Goals as goal

-- the search gives up at a limit here, also with `judged_parts` by `using`, of the list as it is or of one that equals it
pub invariant_of-draft-clause-judged : goal.invariant_of-draft-clause-judged
invariant_of-draft-clause-judged c =
    let d = c.args.draft.now in
    let J = judged_parts (arities_of d) d.parts.items c.args.part d.judged c.requires.fits.judged in
    subst (λ (ps : List Part). Judged (arities_of d) (map part_node ps) (map part_sort ps)) (sym c.push_reserved.ensures.items) J
