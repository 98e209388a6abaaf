-- What a stack holds, and what its calls leave. Assumes nothing.
use Rattle.std.specs.Prelude.{◌≡◌, ℕ, ◌+◌, ◌<◌, List, [], ◌∷◌, ◌++◌, length, take, slice_set}
use Rattle.stack.specs.declared.stack.Stack.{Stack}

module _ {X : Type 0} where
  -- the entries, bottom first
  abbrev pub entries : Stack X → List X
  entries s = take s.count s.items.now

  -- the most entries
  abbrev pub room : Stack X → ℕ
  room s = length s.items.now

  -- an entry was put on top: what the stack holds, and what the lent slice does
  pub record Pushed (before : Stack X) (x : X) (after : Stack X) : Type 0 where
    pub had_room : before.count < room before
    pub held : entries after ≡ entries before ++ x ∷ []
    pub count : after.count ≡ before.count + 1
    pub lent : after.items.now ≡ slice_set before.items.now before.count x

  -- there was no room, and nothing altered
  pub record NotPushed (before after : Stack X) : Type 0 where
    pub no_room : before.count ≡ room before
    pub count : after.count ≡ before.count
    pub lent : after.items.now ≡ before.items.now

  -- the top was taken off, and the lent slice stays
  pub record Popped (before : Stack X) (x : X) (after : Stack X) : Type 0 where
    pub held : entries before ≡ entries after ++ x ∷ []
    pub count : before.count ≡ after.count + 1
    pub lent : after.items.now ≡ before.items.now

  -- there was nothing to take off, and nothing altered
  pub record Empty (before after : Stack X) : Type 0 where
    pub none : entries before ≡ []
    pub count : after.count ≡ before.count
    pub lent : after.items.now ≡ before.items.now

  -- the top entry
  pub record TopIs (s : Stack X) (x : X) : Type 0 where
    pub below : List X
    pub held : entries s ≡ below ++ x ∷ []
