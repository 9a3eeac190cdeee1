-- A run of the evaluator on its way: what it came to so far, and where it stops.
use Rattle.std.specs.Prelude.{◌≡◌, ℕ, suc, ◌*◌, ◌≤◌, ◌⊎◌, max, ℤ, Option, Some, List, true}
use Rattle.cm_syntax.specs.declared.stmt.Program.{Program}
use Rattle.cm_syntax.specs.Label.{traps, ends}
use Rattle.cm_syntax.specs.Trap.{Trap}
use Rattle.cm_syntax.specs.Stack.{Stack, empty_stack}
use Rattle.cm_syntax.specs.Rest.{Control}
use Rattle.cm_meaning.specs.declared.elision.Most.{Most}
use Rattle.cm_meaning.specs.declared.ended.Ended.{Ended}
use Rattle.cm_meaning.specs.declared.ended.Ended.TheVariants as ended
use Rattle.cm_meaning.specs.declared.evaluator.Evaluator.{Evaluator}
use Rattle.cm_meaning.specs.declared.work.Outcome.{Outcome}
use Rattle.cm_meaning.specs.declared.work.Outcome.TheVariants as outcomes
use Rattle.cm_meaning.specs.End.{Done}
use Rattle.cm_meaning.specs.Ended.{trap_of}
use Rattle.cm_meaning.specs.Output.{Entry, numbers_of}
use Rattle.cm_meaning.specs.Meaning.{Limits, Comes, SerialEnd, first_control, serial_step}
use Rattle.cm_meaning.specs.Measure.{IsGreatest, frame_bytes, cilk_frames}
use Rattle.cm_meaning.specs.TypedState.{TypedState}
use Rattle.cm_meaning.specs.Layout.{Shows, calls_in, room_in}
use Rattle.cm_meaning.specs.Evaluator.{IsKept, control_in}

-- ---- the greatest value of a measure so far

module _ (program : Program) (input : List ℤ) (limits : Limits) where
  -- the run reaches a state
  pub record Reaches (t : Control) (g : Stack) : Type 0 where
    pub out : List ℤ
    pub used : ℕ
    pub runs : Comes program limits.page input (first_control program limits) empty_stack out used t g
    pub within : used ≤ limits.ticks

  -- Each state that the run reaches has no greater measure than n, or stands behind this one; and some has it.
  pub record IsSeen (measure : List ℕ → ℕ) (c : Control) (h : Stack) (n : ℕ) : Type 0 where
    pub before : (t : Control) (g : Stack) → Reaches t g
        → (measure t.calls ≤ n) ⊎ ((o : List ℤ) × (u : ℕ) × Comes program limits.page input c h o u t g)
    pub top : measure c.calls ≤ n
    pub state : Control
    pub held : Stack
    pub met : Reaches state held
    pub greatest : measure state.calls ≡ n

-- ---- a run on its way

-- a program with its input and limits
pub record Run : Type 0 where
  pub program : Program
  pub input : List ℤ
  pub limits : Limits

-- the greatest bytes and the greatest number of calls marked `cilk`, with those of the live calls now
abbrev pub noted : Most → Evaluator → Most
noted most ev = record {
  account = most.account;
  bytes = max most.bytes (frame_bytes ev.program.now (calls_in ev.frames));
  depth = max most.depth (cilk_frames ev.program.now (calls_in ev.frames));
}

-- the elision comes to this state with so many ticks and these numbers
abbrev pub Gets : Run → (out : List ℤ) → (used : ℕ) → Control → Stack → Type 0
Gets run out used = Comes run.program run.limits.page run.input (first_control run.program run.limits) empty_stack out used

-- a measure's greatest value up to this state, unless more ticks were taken than there are
abbrev pub Sees : Run → (used : ℕ) → (measure : List ℕ → ℕ) → Control → Stack → ℕ → Type 0
Sees run used measure c h n = used ≤ run.limits.ticks → IsSeen run.program run.input run.limits measure c h n

-- The evaluator stands where the elision comes to with so many ticks and these numbers, and the greatest values of the
-- measures were noted.
pub record Progress (run : Run) (ev : Evaluator) (used : ℕ) (out : List ℤ) (most : Most) : Type 0 where
  pub kept : IsKept ev
  pub program : ev.program.now ≡ run.program
  pub input : ev.input.now ≡ run.input
  pub page : ev.page ≡ run.limits.page
  pub some_page : 1 ≤ run.limits.page
  pub account : most.account ≡ 4 * room_in ev.frames
  pub stack : Stack
  pub typed : TypedState run.program true (control_in ev) stack
  pub shows : Shows ev.frames stack
  pub gets : Gets run out used (control_in ev) stack
  pub bytes : Sees run used (frame_bytes run.program) (control_in ev) stack most.bytes
  pub depth : Sees run used (cilk_frames run.program) (control_in ev) stack most.depth

-- it is on its way in some run
abbrev pub IsUnderWay : Evaluator → List Entry → Most → Type 0
IsUnderWay ev entries most = (run : Run) × (used : ℕ) × Progress run ev used (numbers_of entries) most

-- ---- where it stops

-- by a trap
pub record IsTrapped (run : Run) (used : ℕ) (out : List ℤ) (kind : Trap) : Type 0 where
  pub control : Control
  pub stack : Stack
  pub gets : Gets run out used control stack
  pub stops : serial_step run.program run.limits.page run.input control stack ≡ traps kind

-- by a value, with the greatest values of the measures
pub record IsEnded (run : Run) (used : ℕ) (out : List ℤ) (v : ℤ) (most : Most) : Type 0 where
  pub control : Control
  pub stack : Stack
  pub gets : Gets run out used control stack
  pub stops : serial_step run.program run.limits.page run.input control stack ≡ ends (Some v)
  pub bytes : used ≤ run.limits.ticks → IsGreatest run.program run.input run.limits (frame_bytes run.program) most.bytes
  pub depth : used ≤ run.limits.ticks → IsGreatest run.program run.input run.limits (cilk_frames run.program) most.depth

-- behind a next tick, or at the end
abbrev pub Stops : Run → (used : ℕ) → Outcome → Evaluator → (out : List ℤ) → Most → Type 0
Stops run used outcomes.Going ev out most = ⊥
Stops run used (outcomes.Printed v) ev out most = ⊥
Stops run used outcomes.Tick ev out most = Progress run ev (suc used) out most
Stops run used (outcomes.Trapped kind) ev out most = IsTrapped run used out (trap_of kind)
Stops run used (outcomes.Ended v) ev out most = IsEnded run used out v most

-- wherever it came from, it gets from there to such a place
abbrev pub StopsFrom : (old : Evaluator) → List Entry → Most → Outcome → (new : Evaluator) → List Entry → Most → Type 0
StopsFrom old before less outcome new after more = (run : Run) (used : ℕ) → Progress run old used (numbers_of before) less
    → Stops run used outcome new (numbers_of after) more

-- ---- the end

-- the elision ends by a value
abbrev pub EndsByValue : Program → (input : List ℤ) → Limits → Type 0
EndsByValue program input limits = (out : List ℤ) × (v : Option ℤ) × (used : ℕ) × SerialEnd program input limits (Done out v used)

-- of an end by a value the noted values are the greatest ones of the whole run
abbrev pub HasMost : Program → (input : List ℤ) → Limits → Ended → Most → Type 0
HasMost program input limits (ended.Done output value ticks) most =
    IsGreatest program input limits (frame_bytes program) most.bytes × IsGreatest program input limits (cilk_frames program) most.depth
HasMost program input limits _ most = Unit {0}
