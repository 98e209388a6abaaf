use Rattle.std.proofs.Common.{◌≡◌, ◌<◌, map-id, rules, refl, sym, ap, ◌∙◌, subst, arith}
use Rattle.std.specs.List.{range_with_len}
use Rattle.std.proofs.lemmas.Iterator.{YieldsList-from_range, items_from_drains}
use Rattle.meaning.specs.Tables.{chains_below, round_table}
use Rattle.tuples.specs.declared.atoms.Atoms.{Atoms}
use Rattle.tuples.specs.declared.tuples.Tuples.{Tuples}
use Rattle.tuples.specs.Tabled.{table_of, Tabled}
use Rattle.tuples.proofs.Rounds.{no_round, round_more}
use Rattle.tuples.proofs.Turns.{folds_over}
use Rattle.tuples.proofs.tuples.Tuples.chained_below.Goals as goal

pub returns : goal.returns
returns c =
    let n = c.args.atoms.count in
    let m = c.args.rounds in
    let f = table_of c.args.self.now in
    let d = c.fold.ensures.ran in
    let e : d.0 ≡ range_with_len 0 m = sym (map-id d.0) ∙ items_from_drains d.0 (d.2.1.0, d.2.1.1, λ _. (d.2.0, d.2.1.2)) (YieldsList-from_range 0 m m refl (omega arith)) in
    folds_over (λ p. p.0.now ≡ c.args.atoms) (λ k (t : Tuples). Tabled n 2 (chains_below n k f) t) m d.0 _ _ d.3 e refl (c.requires.pairs, no_round n c.args.self.now.values)
    (λ p k a b q s l h met.
    let kept : q ≡ p = search rules in
    let met_by : k < p.0.now.count → Tabled p.0.now.count 2 (round_table p.0.now.count k (table_of a)) b = search rules in
    let new = subst (λ (x : Atoms). k < x.count → Tabled x.count 2 (round_table x.count k (table_of a)) b) s met_by (omega (arith, l, c.requires.inside)) in
    (ap (λ x. x.0.now) kept ∙ s, (new.0, round_more n k f a.values b.values (omega (arith, l, c.requires.inside)) h.1 new.1)))
