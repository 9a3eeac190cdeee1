-- What a program means: the end of its serial elision, and the ends that fork and join allow.
use Rattle.std.specs.Prelude.{◌≡◌, ℕ, ◌*◌, Bool, ℤ, List}
use Rattle.cm_syntax.specs.declared.stmt.Program.{Program}
use Rattle.cm_syntax.specs.Label.{stuck}
use Rattle.cm_syntax.specs.Cell.{ComesBack}
use Rattle.cm_syntax.specs.Stack.{Stack, Destination, StackSum, SharesBack, settle, empty_stack}
use Rattle.cm_syntax.specs.Rest.{Control}
use Rattle.cm_syntax.specs.Step.{Move, step, start_of, depth, inside}
use Rattle.cm_meaning.specs.End.{End}
use Rattle.cm_meaning.specs.Elision as elision
use Rattle.cm_meaning.specs.Piece as pieces

-- the ticks of a run, the pages of its stack account, and the bytes of a page
pub record Limits : Type 0 where
  pub ticks : ℕ
  pub stack : ℕ
  pub page : ℕ

-- ---- the serial elision

module _ (program : Program) (page : ℕ) (input : List ℤ) where
  -- one step of the elision
  abbrev pub serial_step : Control → Stack → Move
  serial_step = elision.serial_step Control Stack Destination (step program page input) inside

  -- from one state to another, with output and ticks
  abbrev pub Comes : Control → Stack → (output : List ℤ) → (count : ℕ) → Control → Stack → Type 0
  Comes = elision.Comes Control Stack Destination (step program page input) inside

  -- the end from a state with so many ticks, and the words held there
  abbrev pub EndsAs : Control → Stack → (limit : ℕ) → End → Stack → Type 0
  EndsAs = elision.EndsAs Control Stack Destination (step program page input) inside

  -- to a state that no rule has
  abbrev pub GetsStuck : Control → Stack → (limit : ℕ) → Type 0
  GetsStuck = elision.GetsStuck Control Stack Destination (step program page input) inside

-- the first state of a program: the call of main, and nothing is held
abbrev pub first_control : Program → Limits → Control
first_control program limits = start_of program.main (limits.stack * limits.page)

-- the end of the serial elision of a program
abbrev pub SerialEnd : Program → (input : List ℤ) → Limits → End → Type 0
SerialEnd program input limits e =
    (w : Stack) × EndsAs program limits.page input (first_control program limits) empty_stack limits.ticks e w

-- ---- fork and join

abbrev pub Ask : Type 0
Ask = pieces.Ask Control Stack Destination

abbrev pub Note : Type 0
Note = pieces.Note Control Stack Destination

abbrev pub Piece : Type 0
Piece = pieces.Piece Control Stack Destination

abbrev pub begun : Ask → Piece
begun = pieces.begun Control Stack Destination

-- of main
abbrev pub main_ask : Program → Limits → Ask
main_ask program limits = record { start = limits.ticks; call = first_control program limits; lent = empty_stack }

module _ (program : Program) (page : ℕ) (input : List ℤ) where
  -- from a piece the rules lead to this end and these words
  abbrev pub Fork : Piece → End → Stack → Type 0
  Fork = pieces.Fork Control Stack Destination StackSum SharesBack settle depth (step program page input)

  -- one rule
  abbrev pub Goes : Piece → Piece → Type 0
  Goes = pieces.Goes Control Stack Destination StackSum SharesBack settle depth (step program page input)

  -- a share comes back early: from an answer of the log to what is held
  abbrev pub GivesBack : List Note → Stack → List Note → Stack → Type 0
  GivesBack = pieces.GivesBack Control Stack Destination StackSum SharesBack settle depth (step program page input)

  -- the rules lead from the first piece to this one
  abbrev pub Reached : (first : Piece) → Piece → Type 0
  Reached = pieces.Reached Control Stack Destination StackSum SharesBack settle depth (step program page input)

  -- how a piece comes to its own end
  abbrev pub Stops : (start own : ℕ) → Control → Stack → List Note → pieces.Own → Type 0
  Stops = pieces.Stops Control Stack Destination StackSum SharesBack settle depth (step program page input)

  -- no piece that is reached from this one is in a state that no rule has
  abbrev pub IsNeverStuck : Piece → Type 0
  IsNeverStuck first = (p : Piece) → Reached first p → step program page input p.control p.held ≡ stuck → ⊥

-- every child has an end by a value
abbrev pub AllDone : List Note → Type 0
AllDone = pieces.AllDone Control Stack Destination

-- the rules allow this end to a program
abbrev pub ForkEnd : Program → (input : List ℤ) → Limits → End → Type 0
ForkEnd program input limits e = (w : Stack) × Fork program limits.page input (begun (main_ask program limits)) e w

-- two stacks hold the same of each word and reference, and what isn't whole is the same; whatever else is in them
pub record HoldSameCells (a b : Stack) : Type 0 where
  pub words : (d s i : ℕ) → ComesBack (a.words d s i) (b.words d s i)
  pub references : (d s : ℕ) → ComesBack (a.references d s) (b.references d s)

-- some child of the log has this ask
abbrev pub Asks : List Note → Ask → Type 0
Asks log ask = (depth own : ℕ) × (x : Destination) × (joined : Bool) × (r : pieces.Answer Control Stack Destination)
    × pieces.HasNote Control Stack Destination log (pieces.child depth own x joined ask r)

-- An end with words answers an ask of a program's run: the ask is that of a child of a reached piece, the rules allow it
-- the end and these words, and the words that come back are those that were lent, whatever is in them.
pub record Answers (program : Program) (input : List ℤ) (limits : Limits) (ask : Ask) (e : End) (w : Stack) : Type 0 where
  pub parent : Piece
  pub reached : Reached program limits.page input (begun (main_ask program limits)) parent
  pub asked : Asks parent.log ask
  pub allowed : Fork program limits.page input (begun ask) e w
  pub cells : HoldSameCells ask.lent w
