-- What holds of an accepted value, and all that follows from it.
use Rattle.std.proofs.Common.{◌≡◌, Ok, Err, Result, IfOk, MatchResult, sym, subst, ◌∙◌}
use Rattle.std.specs.Result.{IsErrAnd}

pub ok_then : {A E : Type 0} (P Q : A → Type 0) (r : Result A E) → ((a : A) → P a → Q a) → IfOk r P → IfOk r Q
ok_then P Q (Ok a) f h = f a h
ok_then P Q (Err e) f h = tt

-- what is known of an error, and of what it was made into
pub err_then : {A E D : Type 0} (P : A → Type 0) (Q : E → Type 0) (R : E → D → Type 0) (g : E → D) (r : Result A E) (m : Result A D) (d : D) → MatchResult r (λ x. m ≡ Ok x) (λ e. IsErrAnd m (R e)) → MatchResult r P Q → m ≡ Err d → ((e : E) (y : D) → R e y → y ≡ g e) → (e : E) × (d ≡ g e) × Q e
err_then P Q R g (Ok x) m d c h e f = let z = sym c ∙ e in cc
err_then P Q R g (Err x) m d c h e f = (x, f x d (subst (λ o. IsErrAnd o (R x)) e c), h)
