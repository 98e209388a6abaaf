-- The items of some bytes, one by one.
use Rattle.std.proofs.Common.{◌≡◌, ℕ, zero, suc, ◌+◌, ◌<◌, ◌≤◌, eqb, leb, List, [], ◌∷◌, length, take, drop, Option, sym, refl, ap, ◌∙◌, arith, length-drop}
use Rattle.std.specs.declared.option.Option.TheVariants as option
use Rattle.std.specs.List.{prefix_len}
use Rattle.std.proofs.lemmas.Bool.{cond_both}
use Rattle.faults.specs.declared.Fault.{Fault}
use Rattle.faults.specs.declared.Fault.TheVariants.{TokenTooLong}
use Rattle.tokens.specs.declared.token.Sign.{Sign}
use Rattle.tokens.specs.Classes.{space, letter, digit, alnum, sign_of}
use Rattle.tokens.specs.Lexing.{Tok, number, Lexed, got, bad, done, lexed, token, short, named, dash, signed, word_of}
use Rattle.tokens.specs.Items.{at, flaw, more, items}

-- how many bytes the first token and those after it are made of, at least
abbrev wants : Lexed → ℕ
wants (got t p r q) = suc (length r)
wants (bad f) = 1
wants done = 0

wants_short : (n most : ℕ) (s : List ℕ) (p : ℕ) (t : Tok) → 0 < n → 0 < length s → wants (short n most s p t) ≤ length s
wants_short n most s p t h k =
    cond_both (leb n most) (got t p (drop n s) (p + n)) (bad (TokenTooLong p)) (λ x. wants x ≤ length s)
    (λ _. omega (arith, length-drop n s))
    (λ _. omega arith)

wants_dash : (bs : List ℕ) (p : ℕ) → wants (dash bs p) ≤ suc (length bs)
wants_dash [] p = omega arith
wants_dash (b ∷ bs) p =
    cond_both (eqb b 62) _ _ (λ x. wants x ≤ suc (suc (length bs))) (λ _. omega arith) (λ _. omega arith)

wants_signed : (o : Option Sign) (bs : List ℕ) (p : ℕ) → wants (signed o bs p) ≤ suc (length bs)
wants_signed option.None bs p = omega arith
wants_signed (option.Some s) bs p = omega arith

wants_token : (bs : List ℕ) (p : ℕ) → wants (token bs p) ≤ length bs
wants_token [] p = omega arith
wants_token (b ∷ bs) p =
    cond_both (letter b) _ _ (λ x. wants x ≤ suc (length bs))
    (λ e. let n = prefix_len alnum (b ∷ bs) in
    let pos : 0 < n = rw e (omega arith) in
    wants_short n 12 (b ∷ bs) p (named (take n (b ∷ bs)) (word_of (take n (b ∷ bs)))) pos (omega arith))
    (λ _. cond_both (digit b) _ _ (λ x. wants x ≤ suc (length bs))
    (λ e. let n = prefix_len digit (b ∷ bs) in
    let pos : 0 < n = rw e (omega arith) in
    wants_short n 3 (b ∷ bs) p (number (take n (b ∷ bs))) pos (omega arith))
    (λ _. cond_both (eqb b 45) _ _ (λ x. wants x ≤ suc (length bs)) (λ _. wants_dash bs p) (λ _. wants_signed (sign_of b) bs p)))

wants_lexed : (bs : List ℕ) (p : ℕ) → wants (lexed bs p) ≤ length bs
wants_lexed bs p = let n = prefix_len space bs in omega (arith, wants_token (drop n bs) (p + n), length-drop n bs)

-- more fuel makes no other items
steady : (n m : ℕ) (c : Lexed) → wants c ≤ n → wants c ≤ m → more n c ≡ more m c
steady n m done h k = refl
steady n m (bad f) h k = refl
steady zero m (got t p r q) h k = absurd (omega arith)
steady (suc n) zero (got t p r q) h k = absurd (omega arith)
steady (suc n) (suc m) (got t p r q) h k =
    ap (λ x. at t p ∷ x) (steady n m (lexed r q) (omega (arith, wants_lexed r q)) (omega (arith, wants_lexed r q)))

unroll : (n : ℕ) (t : Tok) (p : ℕ) (r : List ℕ) (q : ℕ) → suc (length r) ≤ n → more n (got t p r q) ≡ at t p ∷ items r q
unfolding items
unroll zero t p r q h = absurd (omega arith)
unroll (suc n) t p r q h =
    ap (λ x. at t p ∷ x) (steady n (length r) (lexed r q) (omega (arith, wants_lexed r q)) (wants_lexed r q))

-- a token that is cut off the front
pub items_got : (s : List ℕ) (p : ℕ) (t : Tok) (k : ℕ) (r : List ℕ) (q : ℕ) → got t k r q ≡ lexed s p → at t k ∷ items r q ≡ items s p
unfolding items
items_got s p t k r q e =
    let few : suc (length r) ≤ length s = omega (arith, wants_lexed s p, ap wants e) in
    sym (unroll (length s) t k r q few) ∙ ap (more (length s)) e

pub items_bad : (s : List ℕ) (p : ℕ) (f : Fault) → bad f ≡ lexed s p → flaw f ∷ [] ≡ items s p
unfolding items
items_bad s p f e = ap (more (length s)) e

pub items_done : (s : List ℕ) (p : ℕ) → done ≡ lexed s p → [] ≡ items s p
unfolding items
items_done s p e = ap (more (length s)) e

-- a token takes a byte at least
pub shrinks : (s : List ℕ) (p : ℕ) (t : Tok) (k : ℕ) (r : List ℕ) (q : ℕ) → got t k r q ≡ token s p → suc (length r) ≤ length s
shrinks s p t k r q e = omega (arith, wants_token s p, ap wants e)

pub items_nil : (p : ℕ) → items [] p ≡ []
unfolding items
items_nil p = refl

-- the token after n separators
pub after_space : (s rest : List ℕ) (p q n : ℕ) → n ≡ prefix_len space s → rest ≡ drop n s → q ≡ p + n → token rest q ≡ lexed s p
after_space s rest p q n h e f = ap (token rest) f ∙ ap (λ x. token x (p + n)) e ∙ ap (λ m. token (drop m s) (p + m)) h

count : (n : ℕ) (c : Lexed) → length (more n c) ≤ wants c
count n done = omega arith
count n (bad f) = omega arith
count zero (got t p r q) = omega arith
count (suc n) (got t p r q) = omega (arith, count n (lexed r q), wants_lexed r q)

-- there are no more items than bytes
pub length_items : (s : List ℕ) (p : ℕ) → length (items s p) ≤ length s
unfolding items
length_items s p = omega (arith, count (length s) (lexed s p), wants_lexed s p)
