-- What is yes stays yes where open values are filled in, and what is no stays no.
use Rattle.std.proofs.Common.{◌≡◌, ℕ, List, sym, subst}
use Rattle.lasso.specs.declared.value.Value.{Value}
use Rattle.lasso.specs.declared.value.Value.TheVariants.{No, Open, Yes}
use Rattle.meaning.specs.Levels.{at_open, at_yes, AtLeast}
use Rattle.meaning.specs.Formulas.{Formula}
use Rattle.meaning.specs.Meaning.{Path, Reaches}
use Rattle.meaning.specs.Laws.{FillsIn}
use Rattle.meaning.proofs.Sent.{Sent, reaches_sent}

yes≢open : Yes ≡ Open → ⊥
yes≢open e = cc

no≢open : No ≡ Open → ⊥
no≢open e = cc

filled : (v w : Value) → ((v ≡ Open → ⊥) → w ≡ v) → Sent at_yes (λ u. AtLeast u v) (λ u. AtLeast u w)
filled No w h = record { forth = λ x. absurd x; back = λ x. subst (AtLeast at_open) (h no≢open) x }
filled Open w h = record { forth = λ x. absurd x; back = λ x. tt }
filled Yes w h = record { forth = λ x. subst (AtLeast at_yes) (sym (h yes≢open)) x; back = λ x. tt }

pub refines : (n : ℕ) (π ρ : Path) → FillsIn π ρ → (f : Formula) (e : List ℕ) (i : ℕ) → Sent at_yes (λ u. Reaches n π f e u i) (λ u. Reaches n ρ f e u i)
refines n π ρ h f e i = reaches_sent at_yes n π ρ (λ j p. filled (π j p) (ρ j p) (h j p)) f e i
