-- The paths of a piece of text from those of its parts: through it, from its start to an event, from an event to its
-- end, and from an event to an event. They are those of its walks (`paths_of_parts`).
use Rattle.std.specs.Prelude.{ℕ, ◌⊎◌, ⊤}
use Rattle.cm_syntax.specs.Walk.{Event, Order, nothing, event, next, choice, turns, GoesOn}
use Rattle.cm_syntax.specs.Lending.{Lends, Mentions}

-- a path leads through
abbrev pub Passes : Order → Type 0
Passes nothing = ⊤
Passes (event e) = GoesOn e
Passes (next first second) = Passes first × Passes second
Passes (choice one other) = Passes one ⊎ Passes other
Passes (turns turn) = ⊤

-- a path leads from the start to such an event
abbrev pub Enters : (To : Event → Type 0) → Order → Type 0
Enters To nothing = ⊥
Enters To (event e) = To e
Enters To (next first second) = Enters To first ⊎ (Passes first × Enters To second)
Enters To (choice one other) = Enters To one ⊎ Enters To other
Enters To (turns turn) = Enters To turn

-- a path leads from such an event to the end
abbrev pub Leaves : (From : Event → Type 0) → Order → Type 0
Leaves From nothing = ⊥
Leaves From (event e) = From e
Leaves From (next first second) = (Leaves From first × Passes second) ⊎ Leaves From second
Leaves From (choice one other) = Leaves From one ⊎ Leaves From other
Leaves From (turns turn) = Leaves From turn

-- A path leads from one such event to another such. Of turns it stands in one, or leads from one into a later one.
abbrev pub Holds : (From To : Event → Type 0) → Order → Type 0
Holds From To nothing = ⊥
Holds From To (event e) = ⊥
Holds From To (next first second) = Holds From To first ⊎ (Holds From To second ⊎ (Leaves From first × Enters To second))
Holds From To (choice one other) = Holds From To one ⊎ Holds From To other
Holds From To (turns turn) = Holds From To turn ⊎ (Leaves From turn × Enters To turn)

-- a path from the spawn at that offset, which lends the variable, to a mention of it at this one
abbrev pub HoldsPath : Order → (spawn variable at : ℕ) → Type 0
HoldsPath order spawn variable at = Holds (Lends spawn variable) (Mentions variable at) order
