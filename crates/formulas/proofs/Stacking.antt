-- The open brackets after a bracket more, and after one less.
use Rattle.std.proofs.Common.{◌≡◌, ℕ, ◌<◌, ◌≤◌, cond, List, [], ◌∷◌, ◌++◌, map, reverse, length, Some, None, sym, ap, ◌∙◌, arith}
use Rattle.std.proofs.lemmas.List.{length-map, length-reverse, length-take-le, length-set, reverse-append}
use Rattle.std.proofs.lemmas.Bool.{lt-ltb, le-ltb}
use Rattle.faults.specs.declared.Fault.TheVariants.{OverLimit}
use Rattle.stack.specs.declared.stack.Stack.{Stack}
use Rattle.stack.specs.Stacks.{entries, room, Pushed, NotPushed, Popped}
use Rattle.formulas.specs.declared.sketch.Bracket.{Bracket}
use Rattle.formulas.specs.Bodies.{place_of_bracket, opens}
use Rattle.tokens.specs.Outcomes.{changed, unfit}
use Rattle.formulas.specs.Outcomes.{opened, closed, latest}
use Rattle.formulas.proofs.Steps.{both}

height : (s : Stack Bracket) → s.count ≤ room s → length (map place_of_bracket (reverse (entries s))) ≡ s.count
height s h = length-map (reverse (entries s)) place_of_bracket ∙ length-reverse (entries s) ∙ length-take-le s.count s.items.now h

-- the latest stands first
newest : (xs ys : List Bracket) (x : Bracket) → ys ≡ xs ++ x ∷ [] → map place_of_bracket (reverse ys) ≡ x.place ∷ map place_of_bracket (reverse xs)
newest xs ys x e = ap (λ zs. map place_of_bracket (reverse zs)) e ∙ ap (map place_of_bracket) (reverse-append xs (x ∷ []))

pub opened_more : (p : ℕ) (x : Bracket) (s t : Stack Bracket) → x.place ≡ p → Pushed s x t → changed tt (opens t) ≡ opened p (opens s)
unfolding opens opened
opened_more p x s t h q =
    let n = length (map place_of_bracket (reverse (entries s))) in
    let low : n < room s = omega (arith, height s (omega (arith, q.had_room)), q.had_room) in
    both (λ (m : ℕ) (ps : List ℕ). changed tt (record { limit = m; places = ps })) (ap length q.lent ∙ length-set _ _ _) (newest (entries s) (entries t) x q.held ∙ ap (λ i. i ∷ map place_of_bracket (reverse (entries s))) h)
    ∙ sym (ap (λ c. cond c (changed tt (record { limit = room s; places = p ∷ map place_of_bracket (reverse (entries s)) })) (unfit (OverLimit p))) (lt-ltb n (room s) low))

pub opened_full : (p : ℕ) (s t : Stack Bracket) → NotPushed s t → unfit (OverLimit p) ≡ opened p (opens s)
unfolding opens opened
opened_full p s t q =
    let n = length (map place_of_bracket (reverse (entries s))) in
    let high : room s ≤ n = omega (arith, height s (omega (arith, q.no_room)), q.no_room) in
    sym (ap (λ c. cond c (changed tt (record { limit = room s; places = p ∷ map place_of_bracket (reverse (entries s)) })) (unfit (OverLimit p))) (le-ltb n (room s) high))

pub closed_some : (x : Bracket) (s t : Stack Bracket) → Popped s x t → Some (changed x.place (opens t)) ≡ closed (opens s)
unfolding opens closed
closed_some x s t q =
    ap (λ m. Some (changed x.place (record { limit = m; places = map place_of_bracket (reverse (entries t)) }))) (ap length q.lent)
    ∙ ap (λ ps. latest ps (room s)) (sym (newest (entries t) (entries s) x q.held))

pub closed_none : (s : Stack Bracket) → entries s ≡ [] → None ≡ closed (opens s)
unfolding opens closed
closed_none s e = sym (ap (λ xs. latest (map place_of_bracket (reverse xs)) (room s)) e)
