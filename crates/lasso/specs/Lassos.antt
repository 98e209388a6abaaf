-- Lassos and their endless paths, for src/shape. Assumes nothing.
use Rattle.std.specs.Prelude.{◌≡◌, ℕ, zero, suc, ◌+◌, ◌-◌, ◌%◌, ◌<◌, ◌≤◌, cond, ◌==◌, nat_lt}

-- the state that follows a state, in a lasso of k states that goes back to l after the last
abbrev pub following : ℕ → ℕ → ℕ → ℕ
following k l s = cond (suc s == k) l (suc s)

-- the state at an instant: 0 at the first, and at each later one the state that follows
unfoldable pub state_at : ℕ → ℕ → ℕ → ℕ
state_at k l zero = 0
state_at k l (suc i) = following k l (state_at k l i)

-- the same without going through all instants: whole rounds of the loop are taken off
abbrev pub after_rounds : ℕ → ℕ → ℕ → ℕ
after_rounds k l i = cond (nat_lt i k) i (l + (i - l) % (k - l))

-- what holds of the states at all instants: each is a state of the lasso, the first k instants have the k states
-- in turn, each later one has the state that follows, and from the loop start on all comes again after each round
pub record Endless (k l : ℕ) : Type 0 where
  pub inside : (i : ℕ) → state_at k l i < k
  pub first : (i : ℕ) → i < k → state_at k l i ≡ i
  pub follows : (i : ℕ) → state_at k l (i + 1) ≡ following k l (state_at k l i)
  pub again : (i : ℕ) → l ≤ i → state_at k l (i + (k - l)) ≡ state_at k l i

-- the endless path of a lasso: the value of each place at each instant, from the values of each place in each state
abbrev pub path : {V : Type 0} → ℕ → ℕ → (ℕ → ℕ → V) → ℕ → ℕ → V
path k l f i p = f (state_at k l i) p

-- a lasso with fewer states than k, and the same endless path
pub record Shorter {V : Type 0} (k l : ℕ) (f : ℕ → ℕ → V) : Type 0 where
  pub states : ℕ
  pub start : ℕ
  pub values : ℕ → ℕ → V
  pub fewer : states < k
  pub loops : start < states
  pub same : (i p : ℕ) → path states start values i p ≡ path k l f i p

-- among all lassos with the same endless path, none has fewer states
abbrev pub Fewest : {V : Type 0} → ℕ → ℕ → (ℕ → ℕ → V) → Type 0
Fewest k l f = Shorter k l f → ⊥

-- from an instant on, each value comes again after a period
pub record Repeats {V : Type 0} (k l : ℕ) (f : ℕ → ℕ → V) (from period : ℕ) : Type 0 where
  pub again : (i p : ℕ) → from ≤ i → path k l f (i + period) p ≡ path k l f i p
