-- The lending rule: which mentions are lent, and which spawn is named; what stands twice among what one call
-- passes; what is answered of a program, and which programs are accepted.
use Rattle.std.specs.Prelude.{◌≡◌, ℕ, ◌<◌, ◌≤◌, List, [], ◌∷◌, ◌⊎◌, map, Contains}
use Rattle.cm_syntax.specs.declared.expr.Mark.{Mark}
use Rattle.cm_syntax.specs.declared.stmt.Function.{Function}
use Rattle.cm_syntax.specs.declared.stmt.Program.{Program}
use Rattle.cm_syntax.specs.Walk.{Event, mentions, calls, spawns, ends, Order, Walks, Leads, Has}
use Rattle.cm_syntax.specs.Evaluation.{function_order}

-- ---- lent mentions

-- the variables of these mentions
abbrev pub variables : List (Mark ℕ) → List ℕ
variables marks = map (λ x. x.name) marks

-- a spawn with its word at this offset, which lends the variable
abbrev pub Lends : (spawn variable : ℕ) → Event → Type 0
Lends spawn variable (spawns at lent) = (at ≡ spawn) × Contains (variables lent) variable
Lends spawn variable _ = ⊥

-- a mention of the variable at this offset
abbrev pub Mentions : (variable at : ℕ) → Event → Type 0
Mentions variable at (mentions mentioned offset) = (mentioned ≡ variable) × (offset ≡ at)
Mentions variable at _ = ⊥

-- On some walk through the text a path leads from a spawn at that offset, which lends the variable, to a mention of
-- it at this one. A path is a part of a walk, so it doesn't matter whether offsets are equal.
abbrev pub HasPath : Order → (spawn variable at : ℕ) → Type 0
HasPath order spawn variable at =
    (walk : List Event) × Walks order walk × Leads (Lends spawn variable) (Mentions variable at) walk

-- The mention at this offset is lent by the spawn with its word at that one. Where several mentions stand at one
-- offset, as two do at a closing brace, a spawn that lends to any of them counts.
abbrev pub IsLent : Order → (at spawn : ℕ) → Type 0
IsLent order at spawn = (variable : ℕ) × HasPath order spawn variable at

-- Of the spawns that lend there, the nearest before the offset is named, and where none stands before it, the first.
pub record IsNamed (LentBy : ℕ → Type 0) (at spawn : ℕ) : Type 0 where
  pub lent : LentBy spawn
  pub before : (other : ℕ) → LentBy other → other < at → spawn < at
  pub nearest : (other : ℕ) → LentBy other → other < at → other ≤ spawn
  pub first : at ≤ spawn → (other : ℕ) → LentBy other → spawn ≤ other

-- ---- names that stand twice

-- The later of two mentions of one variable stands at this offset.
abbrev pub HasAgain : List (Mark ℕ) → (at : ℕ) → Type 0
HasAgain [] at = ⊥
HasAgain (x ∷ more) at = Contains more (record { name = x.name; at = at }) ⊎ HasAgain more at

-- A call passes a slice a second time at this offset, or a spawn lends a variable a second time. Calls in the
-- arguments of a call are calls of their own.
abbrev pub Doubles : (at : ℕ) → Event → Type 0
Doubles at (mentions variable offset) = ⊥
Doubles at (calls passed) = HasAgain passed at
Doubles at (spawns offset lent) = HasAgain lent at
Doubles at ends = ⊥

-- ---- what is answered of a program

-- in one of the functions the mention at this offset is lent by the spawn at that one
abbrev pub IsLentAmong : List (Function ℕ) → (at spawn : ℕ) → Type 0
IsLentAmong functions at spawn = (f : Function ℕ) × Contains functions f × IsLent (function_order f) at spawn

-- in one of the functions a call has the same at this offset a second time
abbrev pub IsSameAmong : List (Function ℕ) → (at : ℕ) → Type 0
IsSameAmong functions at = (f : Function ℕ) × Contains functions f × Has (Doubles at) (function_order f)

-- A lent mention is answered where no refused offset is less, with the named spawn. It stands before what is the same
-- at one offset.
pub record IsLentAnswer (program : Program) (at spawn : ℕ) : Type 0 where
  pub named : IsNamed (IsLentAmong program.functions at) at spawn
  pub least : (offset other : ℕ) → IsLentAmong program.functions offset other → at ≤ offset
  pub foremost : (offset : ℕ) → IsSameAmong program.functions offset → at ≤ offset

-- What is the same is answered where no refused offset is less, and no mention is lent at this one.
pub record IsSameAnswer (program : Program) (at : ℕ) : Type 0 where
  pub same : IsSameAmong program.functions at
  pub least : (offset : ℕ) → IsSameAmong program.functions offset → at ≤ offset
  pub foremost : (offset spawn : ℕ) → IsLentAmong program.functions offset spawn → at < offset

-- A program obeys the lending rule where no mention is lent, and no call has the same twice.
pub record IsAccepted (program : Program) : Type 0 where
  pub lent : (at spawn : ℕ) → IsLentAmong program.functions at spawn → ⊥
  pub same : (at : ℕ) → IsSameAmong program.functions at → ⊥
