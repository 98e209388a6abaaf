-- Steps of reading a formula: what each does to what is read so far, and how they follow one another. Assumes nothing.
use Rattle.std.specs.Prelude.{ℕ, suc, ◌-◌, Bool, cond, ◌||◌, List, [], ◌∷◌, ◌++◌, map, length, take as front, is_some, Some, None, Ok, Err, Option, Result, ◌==◌, nat_lt, slice_index}
use Rattle.faults.specs.declared.Fault.{Fault}
use Rattle.faults.specs.declared.Fault.TheVariants.{NameKnown, NameUnknown, ArityMismatch, OverLimit}
use Rattle.names.specs.Lookups.{index_of}
use Rattle.problem.specs.declared.node.Node.{Node}
use Rattle.problem.specs.declared.node.Node.TheVariants as node
use Rattle.problem.specs.declared.node.Constant.{Constant}
use Rattle.problem.specs.declared.sort.Sort.{Sort}
use Rattle.problem.specs.declared.sort.Kind.{Kind}
use Rattle.problem.specs.declared.sort.Kind.TheVariants as kind
use Rattle.problem.specs.declared.sort.Misfit.{Misfit}
use Rattle.problem.specs.declared.sort.Misfit.TheVariants as misfit
use Rattle.problem.specs.Sorts.{placed, arity_at, constant_arity, most_parts, most_variables}
use Rattle.relations.specs.Relations.{arity_number}
use Rattle.tokens.specs.declared.mark.Mark.{Mark}
use Rattle.tokens.specs.Cursors.{Cursor}
use Rattle.tokens.specs.Outcomes as steps
use Rattle.tokens.specs.Outcomes.{take, Change, changed, unfit, refused, alter}
use Rattle.formulas.specs.declared.wish.Wish.{Wish}
use Rattle.formulas.specs.declared.sketch.calls.Meant.{Meant}
use Rattle.formulas.specs.Bodies.{Body, Open}

-- a value, what is left of the tokens, and what is read so far with the brackets that are open; or a fault
abbrev pub Outcome : Type 0 → Type 0
Outcome X = steps.Outcome (Body × Open) X

abbrev pub ok : {X : Type 0} → X → Cursor → Body → Open → Outcome X
ok x c b o = steps.ok x c (b, o)

abbrev pub told : {X : Type 0} → Result X Fault → Cursor → Body → Open → Outcome X
told r c b o = steps.told r c (b, o)

abbrev pub then : {X Y : Type 0} → Outcome X → (X → Cursor → Body → Open → Outcome Y) → Outcome Y
then r k = steps.then r (λ x c z. k x c z.0 z.1)

-- refuses an arity that is not asked for
abbrev pub asked : Option Wish → ℕ → Result (Unit {0}) Fault
asked None a = Ok tt
asked (Some w) a = cond (w.arity == a) (Ok tt) (Err (ArityMismatch w.place))

-- one step after another, on what is read so far alone
abbrev pub next : {Z X Y : Type 0} → Change Z X → (X → Z → Change Z Y) → Change Z Y
next (changed x z) k = k x z
next (unfit f) k = unfit f

abbrev pub unless : {Z X Y : Type 0} → Result X Fault → (X → Change Z Y) → Change Z Y
unless (Ok x) k = k x
unless (Err f) k = unfit f

-- one part more, at a place
unfoldable pub counted : ℕ → Body → Change Body (Unit {0})
counted p b =
    cond (nat_lt b.parts most_parts)
    (changed tt (record { atoms = b.atoms; relations = b.relations; horizon = b.horizon; nodes = b.nodes; sorts = b.sorts; scope = b.scope; parts = suc b.parts }))
    (unfit (OverLimit p))

abbrev pub arities_of : Body → List ℕ
arities_of b = map (λ r. arity_number r.arity) b.relations

abbrev pub names_of : Body → List (List ℕ)
names_of b = map (λ r. r.name) b.relations

abbrev pub misfitting : Misfit → ℕ → Fault
misfitting misfit.Arity p = ArityMismatch p
misfitting misfit.Past p = OverLimit p
misfitting misfit.Room p = OverLimit p

abbrev pub placing : Result Sort Misfit → Node → ℕ → Body → Change Body ℕ
placing (Ok s) n p b =
    changed (length b.nodes) (record { atoms = b.atoms; relations = b.relations; horizon = b.horizon; nodes = b.nodes ++ n ∷ []; sorts = b.sorts ++ s ∷ []; scope = b.scope; parts = b.parts })
placing (Err m) n p b = unfit (misfitting m p)

-- one node more, whose first token is at a place
unfoldable pub putting : Kind → Node → ℕ → Body → Change Body ℕ
putting k n p b = placing (placed (arities_of b) b.sorts k (length b.scope) n) n p b

unfoldable pub arity_in : ℕ → Body → ℕ
arity_in i b = arity_at b.sorts i

abbrev pub meant : Node → ℕ → Meant
meant n a = record { node = n; arity = a }

abbrev pub meant_constant : Constant → Meant
meant_constant k = meant (node.Constant k) (constant_arity k)

abbrev pub as_relation : Option ℕ → ℕ → Body → Result Meant Fault
as_relation (Some r) p b = Ok (meant (node.Relation r) (slice_index (arities_of b) r))
as_relation None p b = Err (NameUnknown p)

abbrev pub as_variable : Option ℕ → List ℕ → ℕ → Body → Result Meant Fault
as_variable (Some v) x p b = Ok (meant (node.Variable v) 1)
as_variable None x p b = as_relation (index_of x (names_of b)) p b

-- what a name in an expression stands for: a variable, or a relation
unfoldable pub resolved : List ℕ → ℕ → Body → Result Meant Fault
resolved x p b = as_variable (index_of x b.scope) x p b

-- a name or constant, as a whole expression: its arity is judged before the part is counted
abbrev pub leafed : Meant → ℕ → Option Wish → Option Wish → Body → Change Body ℕ
leafed m p u w b = unless (asked u m.arity) (λ _. unless (asked w m.arity) (λ _. next (counted p b) (λ _ b₁. putting kind.Expression m.node p b₁)))

abbrev pub naming : List ℕ → ℕ → Option Wish → Option Wish → Body → Change Body ℕ
naming x p u w b = unless (resolved x p b) (λ m. leafed m p u w b)

abbrev pub known : List ℕ → Body → Bool
known x b = is_some (index_of x b.atoms) || (is_some (index_of x (names_of b)) || is_some (index_of x b.scope))

-- a name may be bound: it is not known, and there may be one variable more
abbrev pub bindable_by : Bool → ℕ → ℕ → Result (Unit {0}) Fault
bindable_by is_known n p = cond is_known (Err (NameKnown p)) (cond (nat_lt n most_variables) (Ok tt) (Err (OverLimit p)))

unfoldable pub bindable : List ℕ → ℕ → Body → Result (Unit {0}) Fault
bindable x p b = bindable_by (known x b) (length b.scope) p

abbrev pub scoped : List (List ℕ) → Body → Body
scoped xs b = record { atoms = b.atoms; relations = b.relations; horizon = b.horizon; nodes = b.nodes; sorts = b.sorts; scope = xs; parts = b.parts }

-- a variable more: its number
unfoldable pub bound : List ℕ → ℕ → Body → Change Body ℕ
bound x p b = cond (nat_lt (length b.scope) most_variables) (changed (length b.scope) (scoped (b.scope ++ x ∷ []) b)) (unfit (OverLimit p))

-- the latest variable goes out of scope
unfoldable pub unbound : Body → Body
unbound b = scoped (front (length b.scope - 1) b.scope) b

-- a bracket more is open
unfoldable pub opened : ℕ → Open → Change Open (Unit {0})
opened p o = cond (nat_lt (length o.places) o.limit) (changed tt (record { limit = o.limit; places = p ∷ o.places })) (unfit (OverLimit p))

abbrev pub latest : List ℕ → ℕ → Option (Change Open ℕ)
latest [] n = None
latest (p ∷ ps) n = Some (changed p (record { limit = n; places = ps }))

abbrev pub closes : Option ℕ → Open → Option (Change Open ℕ)
closes None o = None
closes (Some p) o = Some (changed p o)

-- the latest open bracket: its place, and those left
unfoldable pub closed : Open → Option (Change Open ℕ)
closed o = latest o.places o.limit

-- the mark that closes the latest bracket: the bracket's place
abbrev pub closing : {Y : Type 0} → Option (Change Open ℕ) → Mark → Cursor → (ℕ → Cursor → Open → Outcome Y) → Outcome Y
closing None m c k = refused c
closing (Some z) m c k = alter z c (λ p o. take m c (λ _ c₁. k p c₁ o))
