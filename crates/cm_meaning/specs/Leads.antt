-- Where the rules lead from a piece, and what a parent hears of its children.
use Rattle.std.specs.Prelude.{◌≡◌, ◌⊎◌, ℕ, false, ℤ, Option, List, ◌∷◌}
use Rattle.cm_syntax.specs.declared.stmt.Program.{Program}
use Rattle.cm_syntax.specs.Stack.{Stack, Destination, StackSum, SharesBack, settle}
use Rattle.cm_syntax.specs.Rest.{Control}
use Rattle.cm_syntax.specs.Step.{step, depth}
use Rattle.cm_meaning.specs.End.{End, Done}
use Rattle.cm_meaning.specs.Piece as pieces
use Rattle.cm_meaning.specs.Piece.{Answer, child, awaited, told, HasNote}
use Rattle.cm_meaning.specs.Meaning.{Limits, Ask, Note, Piece, Goes, Reached, begun, main_ask, Asks}

module _ (program : Program) (page : ℕ) (input : List ℤ) where
  -- zero or more rules, one after another
  pub data Leads : Piece → Piece → Type 0 where
    here : {p : Piece} → Leads p p
    then : {p q r : Piece} → Goes program page input p q → Leads q r → Leads p r

  -- one awaited answer of a log is told
  abbrev pub Hears : (log later : List Note) → Type 0
  Hears = pieces.Hears Control Stack Destination StackSum SharesBack settle depth (step program page input)

  -- all unjoined children of the frame at a depth, which are Done, are joined in
  abbrev pub Collects : (depth : ℕ) → (log : List Note) → (held : Stack) → (later : List Note) → (joined : Stack) → Type 0
  Collects = pieces.Collects Control Stack Destination StackSum SharesBack settle depth (step program page input)

-- so many ticks of Done children are counted
abbrev pub Counts : List Note → ℕ → Type 0
Counts = pieces.Counts Control Stack Destination

-- the piece with another log
abbrev pub with_log : Piece → List Note → Piece
with_log p log = pieces.piece Control Stack Destination p.start p.own p.control p.held log

-- the piece goes on with what was joined in
abbrev pub joined_piece : Piece → Control → Stack → List Note → Piece
joined_piece p t g later = pieces.piece Control Stack Destination p.start p.own t g later

-- a call that a run of a program asks for: main's, or one that a reached piece spawned
abbrev pub IsAsked : Program → (input : List ℤ) → Limits → Ask → Type 0
IsAsked program input limits ask = (ask ≡ main_ask program limits)
    ⊎ ((p : Piece) × Reached program limits.page input (begun (main_ask program limits)) p × Asks p.log ask)

-- every child of this depth that isn't joined is told an end by a value
abbrev pub AreDone : (depth : ℕ) → List Note → Type 0
AreDone d log = (own : ℕ) (x : Destination) (ask : Ask) (r : Answer Control Stack Destination) → HasNote Control Stack Destination log (child d own x false ask r)
    → (out : List ℤ) × (v : Option ℤ) × (n : ℕ) × (w : Stack) × (r ≡ told (Done out v n) w)

-- One child of the log with this ask is awaited, and is told this answer; nothing else of the log changes.
pub data Tells (ask : Ask) (e : End) (w : Stack) : (log later : List Note) → Type 0 where
  this : {d own : ℕ} {x : Destination} {joined : _} {log : List Note} → Tells ask e w (child d own x joined ask awaited ∷ log) (child d own x joined ask (told e w) ∷ log)
  deeper : {n : Note} {log later : List Note} → Tells ask e w log later → Tells ask e w (n ∷ log) (n ∷ later)
