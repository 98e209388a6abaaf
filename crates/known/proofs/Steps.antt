-- One step of the search for the first contradiction.
use Rattle.std.proofs.Common.{◌≡◌, ℕ, ◌+◌, ◌≤◌, true, false, subst, ⊎_elim, below_more, arith}
use Rattle.std.proofs.lemmas.Bool.{false≢true, cases_lt}
use Rattle.problem.specs.declared.problem.Problem.{Problem}
use Rattle.table.specs.declared.table.Table.{Table}
use Rattle.known.specs.States.{Shows, NoneBelow, NoneBefore}

-- none shows at one place more
pub below_next : (p : Problem) (t : Table) (s q : ℕ) → NoneBelow p t s q → (Shows p t s q → false ≡ true) → NoneBelow p t s (q + 1)
below_next p t s q before f = record { none = below_more (λ r. Shows p t s r → ⊥) q before.none (λ w. false≢true (f w)) }

-- none shows in one state more, where none shows at any place of it
pub before_next : (p : Problem) (t : Table) (s q n : ℕ) → NoneBefore p t s → NoneBelow p t s q → n ≤ q → n ≡ t.places → NoneBefore p t (s + 1)
before_next p t s q n before here past all = record {
  none = λ r x h l w.
      ⊎_elim
      (λ lo. before.none r x lo l w)
      (λ hi. let e : r ≡ s = omega arith in here.none x (omega (arith, all)) (subst (λ y. Shows p t y x) e w))
      (cases_lt r s);
}
