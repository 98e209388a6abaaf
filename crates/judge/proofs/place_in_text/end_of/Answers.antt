use Rattle.std.proofs.Common.{◌≡◌, ◌+◌, ◌-◌, length, take, drop, get_or, sym, ap, ◌∙◌, arith, length-drop}
use Rattle.std.proofs.lemmas.List.{get_or-drop, take_all}
use Rattle.judge.proofs.place_in_text.end_of.Goals as goal

pub returns : goal.returns
returns c =
    let t = c.args.text.now in
    let p = c.args.place in
    let n = c.before_feed.result in
    let e : take (length t - p) (drop p t) ≡ drop p t = take_all _ (drop p t) (omega (arith, length-drop p t)) in
    record {
      behind = omega arith;
      inside = omega (arith, ap length e, length-drop p t, c.before_feed.ensures.inside, c.requires);
      at_feed = λ h. sym (get_or-drop p t n 0) ∙ sym (ap (λ r. get_or r n 0) e) ∙ c.before_feed.ensures.feed (omega (arith, ap length e, length-drop p t));
      same_line = λ k lo hi q.
          let m : p + (k - p) ≡ k = omega arith in
          c.before_feed.ensures.none (k - p) (omega arith) (omega arith)
          (ap (λ r. get_or r (k - p) 0) e ∙ get_or-drop p t (k - p) 0 ∙ ap (λ i. get_or t i 0) m ∙ q);
    }
