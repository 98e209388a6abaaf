use Rattle.std.proofs.Common.{◌≡◌, ◌+◌, ◌*◌, length, get_or, Some, vec_items, vec_len, refl, sym, ap, ◌∙◌, arith, below_more}
use lib.ListN.{length-drop}
use Rattle.cases.specs.Hex.{digit_of, both}
use Rattle.cases.proofs.Pairs.{after_pair, at_pair}
use Rattle.cases.proofs.hex.pairs_of.Goals as goal

pub pairs-preserved : goal.pairs-preserved
pairs-preserved c =
    let text = c.args.text.now in
    let rest = c.pairs.rest.now in
    let items = vec_items c.push.new.self in
    let n = vec_len c.pairs.bytes in
    let e = c.in_ok-push-in-Some.ensures in
    let here : get_or items n 0 ≡ c.in-Some.b = e.by_index.1 0 refl in
    let high = at_pair text rest n 0 (2 * n) c.pairs.invariant.0 (omega arith) in
    let low = at_pair text rest n 1 (2 * n + 1) c.pairs.invariant.0 (omega arith) in
    let pair : both (digit_of (get_or text (2 * n) 0)) (digit_of (get_or text (2 * n + 1) 0)) ≡ Some c.in-Some.b = ap (λ x. both (digit_of x) (digit_of (get_or text (2 * n + 1) 0))) (sym high) ∙ ap (λ x. both (digit_of (get_or rest 0 0)) (digit_of x)) (sym low) ∙ sym c.in-Some.ensures in (
      after_pair text rest n _ c.pairs.invariant.0 e.len,
      omega (arith, e.len, ap length c.pairs.invariant.0, length-drop (2 * n) text, c.in-len2-up.len_at_least),
      λ k h. below_more (λ k. both (digit_of (get_or text (2 * k) 0)) (digit_of (get_or text (2 * k + 1) 0)) ≡ Some (get_or items k 0)) n
          (λ k h. c.pairs.invariant.2 k h ∙ ap (λ b. Some b) (sym (e.by_index.0 k 0 h)))
          (pair ∙ ap (λ b. Some b) (sym here)) k (omega (arith, e.len, h)),
    )

pub returns : goal.returns
returns c =
    let n = vec_len c.pairs.bytes in record {
      count = omega (arith, c.requires, c.pairs.invariant.1, c.in_default.len_below, ap length c.pairs.invariant.0, length-drop (2 * n) c.args.text.now, c.pairs.bytes.ok.0);
      each = λ k h. c.pairs.invariant.2 k (omega (arith, h, c.pairs.bytes.ok.0));
    }
