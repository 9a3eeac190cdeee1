-- Which functions spawn and sync: those that are marked `cilk`, and no others. In a rest each item is of some frame, and so
-- of the mark of its function.
use Rattle.std.specs.Prelude.{◌≡◌, ℕ, ⊤, ◌⊎◌, Bool, true, false, Option, None, Some, List, [], ◌∷◌, length, slice_get}
use Rattle.cm_syntax.specs.declared.stmt.Stmt.{Stmt, Row_of-Stmt, end_of-Stmt, more_of-Stmt}
use Rattle.cm_syntax.specs.declared.stmt.Stmt.TheVariants as statement
use Rattle.cm_syntax.specs.declared.stmt.Function.{Function}
use Rattle.cm_syntax.specs.declared.stmt.Program.{Program}
use Rattle.cm_syntax.specs.Shape.{IfAlone, IfElse, WhileLoop, ForLoop}
use Rattle.cm_syntax.specs.Label.{silent, ticks, prints, spawns, syncs}
use Rattle.cm_syntax.specs.Rest.{Purpose, called, spawned, Item, arguments, pass, perform, sequence, body, branch, turn, test, part, join, end, Control}
use Rattle.cm_syntax.specs.Step.{Move}

-- ---- what a mark allows

module _ (cilk : Bool) where
  abbrev mutual
    -- a statement of a function with this mark: only one that is marked spawns and syncs
    pub AllowsStatement : Stmt ℕ → Type 0
    AllowsStatement (statement.Spawn at x call) = cilk ≡ true
    AllowsStatement (statement.Sync at) = cilk ≡ true
    AllowsStatement (IfAlone t s) = AllowsStatement s
    AllowsStatement (IfElse t s o) = AllowsStatement s × AllowsStatement o
    AllowsStatement (WhileLoop t b) = AllowsStatement b
    AllowsStatement (ForLoop first t s b) = AllowsStatement first × AllowsStatement s × AllowsStatement b
    AllowsStatement (statement.Split' whole place l r _ row close) = AllowsSequence row
    AllowsStatement (statement.Block' _ row) = AllowsSequence row
    AllowsStatement _ = ⊤

    -- the statements of a block
    pub AllowsSequence : {n : _} → Row_of-Stmt ℕ n → Type 0
    AllowsSequence end_of-Stmt = ⊤
    AllowsSequence (more_of-Stmt first more) = AllowsStatement first × AllowsSequence more

  -- those of a body
  abbrev pub AllowsBody : List (Stmt ℕ) → Type 0
  AllowsBody [] = ⊤
  AllowsBody (first ∷ more) = AllowsStatement first × AllowsBody more

  -- a statement that may not be there
  abbrev pub AllowsOther : Option (Stmt ℕ) → Type 0
  AllowsOther None = ⊤
  AllowsOther (Some s) = AllowsStatement s

  -- what arguments are for
  abbrev pub AllowsPurpose : Purpose → Type 0
  AllowsPurpose called = ⊤
  AllowsPurpose (spawned x) = cilk ≡ true

  -- an item of a rest; each function has a join
  abbrev pub AllowsItem : Item → Type 0
  AllowsItem (arguments u f ws row) = AllowsPurpose u
  AllowsItem (pass u f ws row) = AllowsPurpose u
  AllowsItem (perform s) = AllowsStatement s
  AllowsItem (sequence row) = AllowsSequence row
  AllowsItem (body row) = AllowsBody row
  AllowsItem (branch s o) = AllowsStatement s × AllowsOther o
  AllowsItem (turn t s b) = AllowsStatement s × AllowsStatement b
  AllowsItem (test t s b) = AllowsStatement s × AllowsStatement b
  AllowsItem (part a l r row) = AllowsSequence row
  AllowsItem _ = ⊤

-- ---- marks of calls

-- the mark of a function; what isn't there has none
abbrev pub mark_in : Option (Function ℕ) → Bool
mark_in None = false
mark_in (Some function) = function.cilk

-- the calls without the last one
abbrev pub callers : List ℕ → List ℕ
callers [] = []
callers (f ∷ calls) = calls

module _ (program : Program) where
  -- the mark of the running function
  abbrev pub mark_of : (calls : List ℕ) → Bool
  mark_of [] = false
  mark_of (f ∷ calls) = mark_in (slice_get program.functions f)

  -- the call at this depth is of a function that is marked
  abbrev pub IsMarkedAt : (calls : List ℕ) → (depth : ℕ) → Type 0
  IsMarkedAt [] d = ⊥
  IsMarkedAt (f ∷ calls) d = ((length calls ≡ d) × (mark_of (f ∷ calls) ≡ true)) ⊎ IsMarkedAt calls d

  -- each item up to the end of a call is allowed by the mark of its function, and the others by those of the callers
  abbrev pub AllowsRest : (calls : List ℕ) → List Item → Type 0
  AllowsRest calls [] = ⊤
  AllowsRest calls (end ∷ k) = AllowsRest (callers calls) k
  AllowsRest calls (i ∷ k) = AllowsItem (mark_of calls) i × AllowsRest calls k

  -- the marks of its calls allow the rest of a state
  abbrev pub AreAllowed : Control → Type 0
  AreAllowed c = AllowsRest c.calls c.rest

  -- the mark of each function allows its body
  abbrev pub HasAllowedBodies : Type 0
  HasAllowedBodies = (index : ℕ) (function : Function ℕ) → slice_get program.functions index ≡ Some function → AllowsBody function.cilk function.body

  -- What a step makes of a rest that is allowed: rests that are allowed too. A spawn is of a function that is marked, and so
  -- is a sync but for a join.
  abbrev pub KeepsMarks : Control → Move → Type 0
  KeepsMarks c (silent t g) = AreAllowed t
  KeepsMarks c (ticks t g) = AreAllowed t
  KeepsMarks c (prints v t g) = AreAllowed t
  KeepsMarks c (spawns call lent x t g) = (mark_of c.calls ≡ true) × AreAllowed call × AreAllowed t
  KeepsMarks c (syncs t) = ((mark_of c.calls ≡ true) ⊎ (c.rest ≡ join ∷ t.rest)) × AreAllowed t
  KeepsMarks c _ = ⊤
