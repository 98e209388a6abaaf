-- What is read at a number of levels, by that at one less.
use Rattle.std.proofs.Common.{◌≡◌, ℕ, zero, suc, ◌+◌, ◌<◌, true, false, Option, sym, refl, ap, ◌∙◌, arith}
use Rattle.faults.specs.declared.Fault.{Fault}
use Rattle.tokens.specs.Cursors.{Cursor, head, step}
use Rattle.formulas.specs.declared.wish.Wish.{Wish}
use Rattle.formulas.specs.Bodies.{Body, Open}
use Rattle.std.proofs.lemmas.Bool.{cond-true, cond-false}
use Rattle.tokens.specs.declared.mark.Mark.TheVariants as mark
use Rattle.tokens.specs.Items.{is_mark, refusal}
use Rattle.tokens.specs.Outcomes.{fail}
use Rattle.formulas.specs.Outcomes.{ok, then}
use Rattle.formulas.specs.Expressions.{primary, begun, expression, after_name, prime, primes}
use Rattle.formulas.specs.Formulas.{formula, begun as started}
use Rattle.formulas.proofs.Steps.{both}

pub primary_none : (n : ℕ) (u w : Option Wish) (c d : Cursor) (b : Body) (o : Open) (f : Fault) → n ≡ 0 → f ≡ refusal (head c) → d ≡ step c → fail f d ≡ primary n u w c b o
unfolding primary
primary_none zero u w c d b o f e h g = both fail h g
primary_none (suc n) u w c d b o f e h g = absurd (omega arith)

pub primary_more : (n m : ℕ) (u w : Option Wish) (c : Cursor) (b : Body) (o : Open) → m + 1 ≡ n → begun (primary m) u w c b o ≡ primary n u w c b o
unfolding primary
primary_more zero m u w c b o h = absurd (omega arith)
primary_more (suc n) m u w c b o h = let e : m ≡ n = omega arith in ap (λ k. begun (primary k) u w c b o) e

pub formula_none : (n : ℕ) (c d : Cursor) (b : Body) (o : Open) (f : Fault) → n ≡ 0 → f ≡ refusal (head c) → d ≡ step c → fail f d ≡ formula n c b o
unfolding formula
formula_none zero c d b o f e h g = both fail h g
formula_none (suc n) c d b o f e h g = absurd (omega arith)

pub formula_more : (n m : ℕ) (c : Cursor) (b : Body) (o : Open) → m + 1 ≡ n → started (expression m) after_name (formula m) c b o ≡ formula n c b o
unfolding formula
formula_more zero m c b o h = absurd (omega arith)
formula_more (suc n) m c b o h = let e : m ≡ n = omega arith in ap (λ k. started (expression k) after_name (formula k) c b o) e

-- a turn of the ' signs, and their end
pub primes_none : (n p : ℕ) (w : Option Wish) (i : ℕ) (c : Cursor) (b : Body) (o : Open) → n ≡ 0 → ok i c b o ≡ primes n p w i c b o
unfolding primes
primes_none zero p w i c b o e = refl
primes_none (suc n) p w i c b o e = absurd (omega arith)

pub primes_end : (n p : ℕ) (w : Option Wish) (i : ℕ) (c : Cursor) (b : Body) (o : Open) → is_mark mark.Prime (head c) ≡ false → ok i c b o ≡ primes n p w i c b o
unfolding primes
primes_end zero p w i c b o e = refl
primes_end (suc n) p w i c b o e = sym (cond-false _ _ _ e)

pub primes_more : (n m p : ℕ) (w : Option Wish) (i j : ℕ) (c d : Cursor) (b a : Body) (o : Open) → m + 1 ≡ n → is_mark mark.Prime (head c) ≡ true → ok j d a o ≡ prime p w i c b o → primes m p w j d a o ≡ primes n p w i c b o
unfolding primes
primes_more zero m p w i j c d b a o h e r = absurd (omega arith)
primes_more (suc n) m p w i j c d b a o h e r =
    let q : m ≡ n = omega arith in
    ap (λ k. primes k p w j d a o) q
    ∙ ap (λ x. then x (λ j c₁ b₁ o₁. primes n p w j c₁ b₁ o₁)) r
    ∙ sym (cond-true _ _ _ e)

pub primes_fail : (n p : ℕ) (w : Option Wish) (i : ℕ) (f : Fault) (c d : Cursor) (b : Body) (o : Open) → 0 < n → is_mark mark.Prime (head c) ≡ true → fail f d ≡ prime p w i c b o → fail f d ≡ primes n p w i c b o
unfolding primes
primes_fail zero p w i f c d b o h e r = absurd (omega arith)
primes_fail (suc n) p w i f c d b o h e r = ap (λ x. then x (λ j c₁ b₁ o₁. primes n p w j c₁ b₁ o₁)) r ∙ sym (cond-true _ _ _ e)
