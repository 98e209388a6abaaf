-- Rounds through one more atom give chains of any length.
use Rattle.std.proofs.Common.{◌≡◌, ℕ, zero, suc, ◌+◌, ◌*◌, ◌/◌, ◌%◌, ◌<◌, ◌≤◌, ◌⊎◌, subst, inl, inr, ⊎_elim, arith}
use Rattle.std.proofs.lemmas.Bool.{cases_lt}
use Rattle.std.proofs.lemmas.Nat.{div-add-mod', mod_below}
use Rattle.lasso.specs.Values.{smaller, greater}
use Rattle.meaning.specs.Levels.{Level, AtLeast}
use Rattle.meaning.specs.Tuples.{Chain, one, more, Closure}
use Rattle.meaning.specs.Tables.{Table, chains_below}
use Rattle.meaning.specs.Shown.{ShownAt, Of}
use Rattle.meaning.proofs.Atoms.{halves}
use Rattle.meaning.proofs.Shown.{own, onward, smaller_shown, greater_shown}

-- by atoms below k
abbrev Through : ℕ → (ℕ → ℕ → Type 0) → ℕ → ℕ → Type 0
Through zero R a b = R a b
Through (suc k) R a b = Through k R a b ⊎ (Through k R a k × Through k R k b)

joined : {n : ℕ} {R : ℕ → ℕ → Type 0} {a c b : ℕ} → c < n → Chain n R a c → Chain n R c b → Chain n R a b
joined h (one x) y = more h x y
joined h (more k x xs) y = more k x (joined h xs y)

module _ (n : ℕ) (R : ℕ → ℕ → Type 0) where
  to_chain : (k : ℕ) → k ≤ n → (a b : ℕ) → Through k R a b → Chain n R a b
  to_chain zero h a b x = one x
  to_chain (suc k) h a b x =
      ⊎_elim
      (λ y. to_chain k (omega arith) a b y)
      (λ y. joined (omega arith) (to_chain k (omega arith) a k y.0) (to_chain k (omega arith) k b y.1))
      x

  whole : (k a b : ℕ) → R a b → Through k R a b
  whole zero a b x = x
  whole (suc k) a b x = inl (whole k a b x)

  -- what goes through atoms below k may be put together at one of them
  meets : (k c : ℕ) → c < k → (a b : ℕ) → Through k R a c → Through k R c b → Through k R a b
  meets zero c h a b x y = absurd (omega arith)
  meets (suc k) c h a b x y =
      ⊎_elim
      (λ lt.
      ⊎_elim
      (λ p. ⊎_elim (λ q. inl (meets k c lt a b p q)) (λ q. inr (meets k c lt a k p q.0, q.1)) y)
      (λ p. ⊎_elim (λ q. inr (p.0, meets k c lt k b p.1 q)) (λ q. inr (p.0, q.1)) y)
      x)
      (λ ge.
      let e : c ≡ k = omega arith in
      let p : Through (suc k) R a k = subst (λ (d : ℕ). Through (suc k) R a d) e x in
      let q : Through (suc k) R k b = subst (λ (d : ℕ). Through (suc k) R d b) e y in
      inr (⊎_elim (λ u. u) (λ u. u.0) p, ⊎_elim (λ u. u) (λ u. u.1) q))
      (cases_lt c k)

  from_chain : {a b : ℕ} → Chain n R a b → Through n R a b
  from_chain {a} {b} (one x) = whole n a b x
  from_chain {a} {b} (more {c = c} h x xs) = meets n c h a b (whole n a c x) (from_chain xs)

module _ (n : ℕ) (f : Table) where
  abbrev Step : Level → ℕ → ℕ → Type 0
  Step t a b = AtLeast t (f (a * n + b))

  rounds : (k : ℕ) → k ≤ n → (a b : ℕ) → (0 < n → b < n) → ShownAt (λ t. Through k (Step t) a b) (chains_below n k f (a * n + b))
  unfolding chains_below
  rounds zero h a b l = own (f (a * n + b))
  rounds (suc k) h a b l =
      let w : Table = chains_below n k f in
      let through : ShownAt (λ t. Through (suc k) (Step t) a b) (greater (w (a * n + b)) (smaller (w (a * n + k)) (w (k * n + b)))) =
      greater_shown (rounds k (omega arith) a b l) (smaller_shown (rounds k (omega arith) a k (λ z. omega arith)) (rounds k (omega arith) k b l)) in
      (halves (λ p q. ShownAt (λ t. Through (suc k) (Step t) a b) (greater (w (a * n + b)) (smaller (w (p * n + k)) (w (k * n + q))))) n a b (l (omega arith))).1 through

  pub chains_shown : (r : ℕ) → ShownAt (λ t. Closure n (Of f) t r) (chains_below n n f r)
  chains_shown r =
      let s = rounds n (omega arith) (r / n) (r % n) (mod_below r n) in
      subst (λ (q : ℕ). ShownAt (λ t. Closure n (Of f) t r) (chains_below n n f q)) (div-add-mod' r n)
      (onward (λ t. (to_chain n (Step t) n (omega arith) (r / n) (r % n), from_chain n (Step t))) s)

pub chain_along :
    (n : ℕ) (R S : ℕ → ℕ → Type 0) → ((a b : ℕ) → a < n → b < n → R a b → S a b) → {a b : ℕ} → a < n → b < n → Chain n R a b → Chain n S a b
chain_along n R S h {a} {b} la lb (one x) = one (h a b la lb x)
chain_along n R S h {a} {b} la lb (more {c = c} k x xs) = more k (h a c la k x) (chain_along n R S h k lb xs)
