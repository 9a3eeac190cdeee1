-- The events of a function's text, the orders in which they come, and the paths on the walks through them.
use Rattle.std.specs.Prelude.{◌≡◌, ℕ, List, [], ◌∷◌, ◌++◌, ◌⊎◌, ⊤}
use Rattle.cm_syntax.specs.declared.expr.Mark.{Mark}

-- What a walk through a function's text comes to, as far as lending looks at it.
pub data Event : Type 0 where
  -- a mention, of the variable with this slot
  mentions : (variable at : ℕ) → Event
  -- a call, and what it passes as slices, in the order of the text
  calls : (passed : List (Mark ℕ)) → Event
  -- a spawn, the offset of its word, and what it lends: its destination and what its call passes as slices
  spawns : (at : ℕ) (lent : List (Mark ℕ)) → Event
  -- No path goes on: a `sync`, a completed `return`, or what is behind a loop without a condition.
  ends : Event

-- In which order the events of a piece of text come, with every condition taken either way.
pub data Order : Type 0 where
  nothing : Order
  event : Event → Order
  -- the first, then the second
  next : (first second : Order) → Order
  -- one of the two
  choice : (one other : Order) → Order
  -- any number of turns, one after another
  turns : (turn : Order) → Order

-- the lists that consist of any number of lists with this property
pub data Repeats (P : List Event → Type 0) : List Event → Type 0 where
  no_turn : Repeats P []
  a_turn : {walk first rest : List Event} → walk ≡ first ++ rest → P first → Repeats P rest → Repeats P walk

-- These are the events, in their order, that one walk through the text comes to.
abbrev pub Walks : Order → List Event → Type 0
Walks nothing walk = walk ≡ []
Walks (event e) walk = walk ≡ e ∷ []
Walks (next first second) walk = (front rest : List Event) × (walk ≡ front ++ rest) × Walks first front × Walks second rest
Walks (choice one other) walk = Walks one walk ⊎ Walks other walk
Walks (turns turn) walk = Repeats (Walks turn) walk

-- a path goes on over every event but an end
abbrev pub GoesOn : Event → Type 0
GoesOn (mentions variable at) = ⊤
GoesOn (calls passed) = ⊤
GoesOn (spawns at lent) = ⊤
GoesOn ends = ⊥

-- A path leads from the front of these events to such a one: the first event is it, or the path goes on over it.
abbrev pub Comes : (To : Event → Type 0) → List Event → Type 0
Comes To [] = ⊥
Comes To (e ∷ walk) = To e ⊎ (GoesOn e × Comes To walk)

-- Among these events a path leads from one such event to another such.
abbrev pub Leads : (From To : Event → Type 0) → List Event → Type 0
Leads From To [] = ⊥
Leads From To (e ∷ walk) = (From e × Comes To walk) ⊎ Leads From To walk

-- such an event stands in the text
abbrev pub Has : (Is : Event → Type 0) → Order → Type 0
Has Is nothing = ⊥
Has Is (event e) = Is e
Has Is (next first second) = Has Is first ⊎ Has Is second
Has Is (choice one other) = Has Is one ⊎ Has Is other
Has Is (turns turn) = Has Is turn
