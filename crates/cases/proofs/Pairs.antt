-- A text in pairs: what is left after one pair more, and where the pair stands.
use Rattle.std.proofs.Common.{◌≡◌, ℕ, ◌+◌, ◌-◌, ◌*◌, List, length, drop, take, get_or, ap, ◌∙◌, arith}
use Rattle.std.proofs.Math.Seq.{drop-drop, get_or-drop}
use Rattle.std.proofs.lemmas.List.{take_all}
use lib.ListN.{length-drop}

pub after_pair : (text rest : List ℕ) (n m : ℕ) → rest ≡ drop (2 * n) text → m ≡ n + 1 → take (length rest - 2) (drop 2 rest) ≡ drop (2 * m) text
after_pair text rest n m e s =
    take_all (length rest - 2) (drop 2 rest) (omega (arith, length-drop 2 rest)) ∙ ap (drop 2) e ∙ drop-drop 2 (2 * n) text ∙ ap (λ k. drop k text) (omega (arith, s))

pub at_pair : (text rest : List ℕ) (n i j : ℕ) → rest ≡ drop (2 * n) text → 2 * n + i ≡ j → get_or rest i 0 ≡ get_or text j 0
at_pair text rest n i j e s = ap (λ xs. get_or xs i 0) e ∙ get_or-drop (2 * n) text i 0 ∙ ap (λ k. get_or text k 0) s
