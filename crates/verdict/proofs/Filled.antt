-- Every possible behaviour fills in the path of what is known, so yes and no hold of it.
use Rattle.std.proofs.Common.{◌≡◌, ◌≢◌, ℕ, ◌<◌, length, inl, inr, refl, sym, subst, ◌∙◌}
use Rattle.std.proofs.lemmas.Bool.{cases_lt}
use Rattle.lasso.specs.declared.value.Value.{Value}
use Rattle.lasso.specs.declared.value.Value.TheVariants.{No, Open, Yes}
use Rattle.source.specs.Meanings.{Meaning}
use Rattle.problem.specs.declared.problem.Problem.{Problem}
use Rattle.problem.specs.Problems.{atoms_in, sizes_in}
use Rattle.places.specs.Places.{place_count}
use Rattle.meaning.specs.Meaning.{Path}
use Rattle.meaning.specs.Trees.{formula_in, no_variable}
use Rattle.meaning.specs.Laws.{FillsIn}
use Rattle.meaning.proofs.Refines.{refines}
use Rattle.known.specs.Known.{KnownAt, settled, told, told_once, never_told, IsKnown}
use Rattle.verdict.specs.Verdicts.{FormulaIs, Possible, KnownSettles}

-- at one place, by why it is known
pub filled_at : (p : Problem) (m : Meaning) (β : Path) (i place : ℕ) (v : Value) → Possible p m β → place < place_count (sizes_in p) → KnownAt p m i place v → v ≢ Open → β i place ≡ v
filled_at p m β i place v h l (settled b o) n = h.within i place b o
filled_at p m β i place v h l (told b f) n = h.agrees i place l n
filled_at p m β i place v h l (told_once j b f e o) n = h.steady i j place f ∙ h.agrees j place l (λ q. o (sym e ∙ q)) ∙ e
filled_at p m β i place v h l (never_told b f n') n = absurd (n refl)

-- every possible behaviour fills in what is known
pub fills_in : (p : Problem) (m : Meaning) (π β : Path) → IsKnown p m π → Possible p m β → FillsIn π β
fills_in p m π β k h i place n =
    elim (cases_lt place (place_count (sizes_in p))) [
      | inl lt ↦ filled_at p m β i place (π i place) h lt (k.inside i place lt) n
      | inr ge ↦ absurd (n (k.outside i place ge))
    ]

pub known_settles : KnownSettles
known_settles p m π v k f =
    let n = length (atoms_in p) in
    record {
      yes = λ e β h. (refines n π β (fills_in p m π β k h) (formula_in p) no_variable 0).forth (subst (FormulaIs p π) e f);
      no = λ e β h.
          let none : FormulaIs p π No = subst (FormulaIs p π) e f in
          λ x. none ((refines n π β (fills_in p m π β k h) (formula_in p) no_variable 0).back x);
    }
