-- Pieces and logs of this language: what is defined over any language, of its controls, stacks and destinations.
use Rattle.std.specs.Prelude.{ℕ, List}
use Rattle.cm_syntax.specs.Stack.{Stack, Destination}
use Rattle.cm_syntax.specs.Rest.{Control}
use Rattle.cm_meaning.specs.Piece as pieces
use Rattle.cm_meaning.specs.Meaning.{Note, Piece}

-- what came of a child
abbrev pub Answer : Type 0
Answer = pieces.Answer Control Stack Destination

-- a piece, by its parts
abbrev pub piece : (start own : ℕ) → Control → Stack → List Note → Piece
piece = pieces.piece Control Stack Destination

-- a log has a note
abbrev pub HasNote : List Note → Note → Type 0
HasNote = pieces.HasNote Control Stack Destination

-- every child of a log has an answer
abbrev pub AllTold : List Note → Type 0
AllTold = pieces.AllTold Control Stack Destination

-- some child has an end that isn't by a value
abbrev pub Fallen : List Note → Type 0
Fallen = pieces.Fallen Control Stack Destination

-- what a log comes to
abbrev pub log_sum : List Note → pieces.Sum
log_sum = pieces.log_sum Control Stack Destination
