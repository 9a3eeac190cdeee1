-- What the evaluator holds, as a state of the meaning, and what its steps have to do.
use Rattle.std.specs.Prelude.{◌≡◌, ℕ, ◌+◌, ◌*◌, ◌≤◌, true, Option, None, Some, List, [], ◌∷◌, ◌++◌, length, map, reverse, take, drop}
use mathlib.Core.Former.{Count}
use Rattle.std.specs.Borrow.{Bor}
use Rattle.cm_syntax.specs.declared.expr.Arg.{Arg}
use Rattle.cm_syntax.specs.declared.expr.Call.{Row_of-Arg, end_of-Arg, more_of-Arg}
use Rattle.cm_syntax.specs.declared.expr.Expr.{Expr}
use Rattle.cm_syntax.specs.declared.expr.Op.{Op}
use Rattle.cm_syntax.specs.declared.expr.Op.TheVariants as op
use Rattle.cm_syntax.specs.declared.stmt.Stmt.{Stmt, Row_of-Stmt, end_of-Stmt, more_of-Stmt}
use Rattle.cm_syntax.specs.declared.stmt.Stmt.TheVariants as statement
use Rattle.cm_syntax.specs.Stack.{Stack, Argument, Destination}
use Rattle.cm_syntax.specs.Label.{silent, ticks, prints, traps, ends}
use Rattle.cm_syntax.specs.Rest as rest
use Rattle.cm_syntax.specs.Step.{Move}
use Rattle.cm_meaning.specs.declared.evaluator.Evaluator.{Evaluator}
use Rattle.cm_meaning.specs.declared.work.Purpose.{Purpose}
use Rattle.cm_meaning.specs.declared.work.Purpose.TheVariants as purposes
use Rattle.cm_meaning.specs.declared.work.Scalar.{Scalar}
use Rattle.cm_meaning.specs.declared.work.Hand.{Hand}
use Rattle.cm_meaning.specs.declared.work.Hand.TheVariants as hands
use Rattle.cm_meaning.specs.declared.work.Work.{Work}
use Rattle.cm_meaning.specs.declared.work.Work.TheVariants as works
use Rattle.cm_meaning.specs.declared.work.Outcome.{Outcome}
use Rattle.cm_meaning.specs.declared.work.Outcome.TheVariants as outcomes
use Rattle.cm_meaning.specs.Ended.{trap_of}
use Rattle.cm_meaning.specs.Meaning.{serial_step}
use Rattle.cm_meaning.specs.Measure.{cilk_frames}
use Rattle.cm_meaning.specs.Typing.{TypedProgram}
use Rattle.cm_meaning.specs.TypedState.{TypedState}
use Rattle.cm_meaning.specs.Layout.{argument_of, calls_in, program_in, room_in, frames_words, FitFrames, IsLaidOut, Shows}
use Rattle.cm_meaning.specs.Range.{max_stack_words}

-- ---- what is still to do

-- statements and arguments as the rows that items hold
abbrev pub statements_row : List (Stmt ℕ) → (n : Count) × Row_of-Stmt ℕ n
statements_row [] = (_, end_of-Stmt)
statements_row (first ∷ more) = (_, more_of-Stmt first (statements_row more).1)

abbrev pub arguments_row : List (Arg ℕ) → (n : Count) × Row_of-Arg ℕ n
arguments_row [] = (_, end_of-Arg)
arguments_row (first ∷ more) = (_, more_of-Arg first (arguments_row more).1)

abbrev pub purpose_of : Purpose → rest.Purpose
purpose_of purposes.Called = rest.called
purpose_of (purposes.Spawned x) = rest.spawned x

abbrev pub destination_of : Option Scalar → Destination
destination_of None = None
destination_of (Some x) = Some (record { depth = x.depth; slot = x.slot })

-- a part that may not be there
abbrev pub optional_of : {A : Type 0} → Option (Bor A) → Option A
optional_of None = None
optional_of (Some x) = Some x.now

-- what is done behind a turn of a loop: nothing, where there is no such part
abbrev pub step_of : Option (Bor (Stmt ℕ)) → Stmt ℕ
step_of None = statement.Empty
step_of (Some s) = s.now

-- how many arguments a piece of work holds
abbrev pub work_count : Work → ℕ
work_count (works.Arguments u f count more) = count
work_count (works.Pass u f count more) = count
work_count _ = 0

-- a piece of work with its arguments, last first
abbrev pub item_of : Work → List Argument → rest.Item
item_of (works.Evaluate e) ws = rest.evaluate e.now
item_of (works.Right o e) ws = rest.right o e.now
item_of (works.Apply o v) ws = rest.apply o v
item_of (works.Prefix o) ws = rest.prefix o
item_of (works.Both e) ws = rest.both e.now
item_of (works.Either e) ws = rest.either e.now
item_of works.Truth ws = rest.truth
item_of (works.Element a) ws = rest.element a
item_of works.Read ws = rest.read
item_of (works.Arguments u f count more) ws = rest.arguments (purpose_of u) f ws (arguments_row more.now).1
item_of (works.Pass u f count more) ws = rest.pass (purpose_of u) f ws (arguments_row more.now).1
item_of works.TakeBack ws = rest.take_back
item_of works.Discard ws = rest.discard
item_of (works.Deliver x) ws = rest.deliver (destination_of x)
item_of (works.Perform s) ws = rest.perform s.now
item_of (works.Sequence row) ws = rest.sequence (statements_row row.now).1
item_of (works.Body row) ws = rest.body row.now
item_of (works.Declare row) ws = rest.declare row.now
item_of (works.Assign x) ws = rest.assign x
item_of (works.Update x o) ws = rest.update x o
item_of (works.Locate a o e) ws = rest.locate a o e.now
item_of (works.Store a i o) ws = rest.store a i o
item_of (works.Branch s o) ws = rest.branch s.now (optional_of o)
item_of (works.Turn t s b) ws = rest.turn (optional_of t) (step_of s) b.now
item_of (works.Behind s) ws = rest.perform (step_of s)
item_of (works.Test t s b) ws = rest.test t.now (step_of s) b.now
item_of (works.Part a l r row) ws = rest.part a l r (statements_row row.now).1
item_of works.Tick ws = rest.tick
item_of works.Show ws = rest.show
item_of works.Exit ws = rest.exit
item_of works.Fall ws = rest.fall
item_of works.Join ws = rest.join
item_of works.End ws = rest.end

-- the rest, the next first, with all arguments, last first
abbrev pub items_of : List Work → List Argument → List rest.Item
items_of [] ws = []
items_of (work ∷ more) ws = item_of work (take (work_count work) ws) ∷ items_of more (drop (work_count work) ws)

-- how many arguments the call at hand has
abbrev pub hand_count : Hand → ℕ
hand_count (hands.Entering f count) = count
hand_count (hands.Framing f count) = count
hand_count _ = 0

-- what is at hand, with its arguments, last first
abbrev pub hand_of : Hand → List Argument → rest.Hand
hand_of hands.Idle ws = rest.idle
hand_of (hands.Value v) ws = rest.holds v
hand_of (hands.Returned v) ws = rest.returned v
hand_of (hands.Entering f count) ws = rest.entering f ws
hand_of (hands.Framing f count) ws = rest.framing f ws

-- ---- the state

-- all arguments, last first
abbrev pub passed_in : Evaluator → List Argument
passed_in ev = reverse (map argument_of ev.passed.items)

-- the state of the meaning where this work is to be done before the rest
abbrev pub control_with : List Work → Evaluator → rest.Control
control_with before ev = rest.control (calls_in ev.frames) ev.account (hand_of ev.hand (take (hand_count ev.hand) (passed_in ev)))
    (items_of (before ++ reverse ev.rest.items) (drop (hand_count ev.hand) (passed_in ev)))

abbrev pub control_in : Evaluator → rest.Control
control_in ev = control_with [] ev

-- What holds of a run at each moment.
pub record IsKept (ev : Evaluator) : Type 0 where
  pub laid : IsLaidOut ev.frames
  pub program : program_in ev.frames ≡ ev.program.now
  pub typed : TypedProgram ev.program.now
  pub fit : FitFrames ev.program.now
  -- what is left of the account, what the frames take of it, and a page for each call of a function marked `cilk`
  pub account : ev.account + (4 * frames_words ev.program.now (calls_in ev.frames) + ev.page * cilk_frames ev.program.now (calls_in ev.frames)) ≡ 4 * room_in ev.frames
  pub room : room_in ev.frames ≤ max_stack_words
  pub page : ev.page ≤ 4096
  pub input : length ev.input.now ≤ 65536

-- a stack of which the run shows what is present, where the state is typed
abbrev pub IsTypedAt : Evaluator → rest.Control → Stack → Type 0
IsTypedAt ev c h = TypedState ev.program.now true c h × Shows ev.frames h

-- no call is at hand
abbrev pub IsPlain : Hand → Type 0
IsPlain (hands.Entering f count) = ⊥
IsPlain (hands.Framing f count) = ⊥
IsPlain _ = Unit {0}

-- the run may do a step; or, with no call at hand, it may do this piece of work, which was the first of the rest
abbrev pub IsAtHand : Evaluator → Type 0
IsAtHand ev = IsKept ev × (h : Stack) × IsTypedAt ev (control_in ev) h

abbrev pub IsReady : Evaluator → Work → Type 0
IsReady ev work = IsKept ev × IsPlain ev.hand × (h : Stack) × IsTypedAt ev (control_with (work ∷ []) ev) h

abbrev pub IsValue : Hand → Type 0
IsValue (hands.Value v) = Unit {0}
IsValue _ = ⊥

-- some call is live
abbrev pub IsRunning : Evaluator → Type 0
IsRunning ev = 1 ≤ length (calls_in ev.frames)

-- what is to be done with the value of a left operand
abbrev pub left_work : Op → Bor (Expr ℕ) → Work
left_work op.Both right = works.Both right
left_work op.Either right = works.Either right
left_work o right = works.Right o right

-- what stands behind a call with these arguments: what came back of a spawn goes to its destination in this frame
abbrev pub delivery : Purpose → (depth : ℕ) → List Work
delivery purposes.Called depth = []
delivery (purposes.Spawned None) depth = works.Deliver None ∷ []
delivery (purposes.Spawned (Some x)) depth = works.Deliver (Some (record { depth = depth; slot = x })) ∷ []

-- ---- what a step does

-- the same program, input and page
pub record IsSameRun (old new : Evaluator) : Type 0 where
  pub program : new.program.now ≡ old.program.now
  pub input : new.input.now ≡ old.input.now
  pub page : new.page ≡ old.page
  pub room : room_in new.frames ≡ room_in old.frames

-- what a step of the meaning gives, by what the run did
abbrev pub Leads : Outcome → Move → Evaluator → Type 0
Leads outcomes.Going move new = (g : Stack) × (move ≡ silent (control_in new) g) × Shows new.frames g
Leads outcomes.Tick move new = (g : Stack) × (move ≡ ticks (control_in new) g) × Shows new.frames g
Leads (outcomes.Printed v) move new = (g : Stack) × (move ≡ prints v (control_in new) g) × Shows new.frames g
Leads (outcomes.Trapped kind) move new = move ≡ traps (trap_of kind)
Leads (outcomes.Ended v) move new = move ≡ ends (Some v)

-- the run does the step of the elision from this state
pub record DoesFrom (c : rest.Control) (old : Evaluator) (outcome : Outcome) (new : Evaluator) : Type 0 where
  pub kept : IsKept new
  pub same : IsSameRun old new
  pub leads : (h : Stack) → IsTypedAt old c h → Leads outcome (serial_step old.program.now old.page old.input.now c h) new

abbrev pub Steps : Evaluator → Outcome → Evaluator → Type 0
Steps old outcome new = DoesFrom (control_in old) old outcome new

abbrev pub Does : Evaluator → Work → Outcome → Evaluator → Type 0
Does old work outcome new = DoesFrom (control_with (work ∷ []) old) old outcome new

-- this work is put before the rest, with this at hand, and nothing else changes
abbrev pub Puts : Evaluator → List Work → Hand → Evaluator → Type 0
Puts old before hand new = new ≡ record {
  program = old.program;
  input = old.input;
  page = old.page;
  account = old.account;
  hand = hand;
  rest = new.rest;
  passed = old.passed;
  frames = old.frames;
} × (reverse new.rest.items ≡ before ++ reverse old.rest.items)
