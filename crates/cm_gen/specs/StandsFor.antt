-- When a machine stands for a state of the meaning: exactly, or within the instructions of the state's next step. It is
-- said over a partial map of words, so that one hart, strands and threads have the same laws.
use Rattle.std.specs.Prelude.{◌≡◌, ℕ, zero, suc, ◌+◌, ◌-◌, ◌%◌, ◌^◌, ◌<◌, ◌≤◌, ◌==◌, ◌⊎◌, ⊤, false, if◌then◌else◌, ℤ, pos, Option, None, Some, FitsSigned, List, [], ◌∷◌, length, slice_get}
use Rattle.std.specs.Int.{w32}
use Rattle.cm_isa.specs.Operation.{ecall}
use Rattle.cm_isa.specs.Machine.{Machine, Mapped, Code, StepsTo, IsWritable}
use Rattle.cm_isa.specs.Run.{Extends, replied_machine}
use Rattle.cm_isa.specs.declared.convention.TheConstants as reg
use Rattle.cm_syntax.specs.declared.stmt.Function.{Function}
use Rattle.cm_syntax.specs.declared.stmt.Program.{Program}
use Rattle.cm_syntax.specs.Trap as kind
use Rattle.cm_syntax.specs.Trap.{Trap}
use Rattle.cm_syntax.specs.Label.{silent, ticks, prints, spawns, syncs, traps, ends, stuck}
use Rattle.cm_syntax.specs.Stack.{Stack, Destination, Argument, word, slice}
use Rattle.cm_syntax.specs.Rest.{Item, Hand, idle, holds, returned, entering, framing, Control}
use Rattle.cm_syntax.specs.Step.{Move, inside, is_index, scalar_slice}
use Rattle.cm_meaning.specs.Activation.{end_count}
use Rattle.cm_gen.specs.declared.form.Form.{Form}
use Rattle.cm_gen.specs.declared.form.Form.TheVariants.{Serial, Cilk}
use Rattle.cm_gen.specs.Assembler.{sw}
use Rattle.cm_gen.specs.Part.{table_word}
use Rattle.cm_gen.specs.Returns.{link_of, Links, GoesTo}
use Rattle.cm_gen.specs.Run.{stack_top, start_registers}
use Rattle.cm_gen.specs.Standing.{Stands, Frame, LeadsTo, arguments_size, form_here, Coded, HasEntry}
use Rattle.cm_gen.specs.FrameWord.{bits, bytes_of, pointer_of, MayStand, AreFrames, Holds, Kept, HasOwn, reference_address}

-- where the frames of a stack are, where the next one may stand, and the addresses at which the calls go on when they come
-- back, the last one first
pub record Spot : Type 0 where
  pub frames : List Frame
  pub low : ℕ
  pub returns : List ℕ

-- No frame moves from one spot to another: they are the same; a call was made, with one return more; its frame came where
-- the next one may stand; or the last frame went, the next one may stand there again, and its return was taken.
pub data Moves (old new : Spot) : Type 0 where
  stays : new ≡ old → Moves old new
  enters : (p : ℕ) → new ≡ record { frames = old.frames; low = old.low; returns = p ∷ old.returns } → Moves old new
  comes : (F : Frame) → new.frames ≡ F ∷ old.frames → F.address ≡ old.low → new.returns ≡ old.returns → Moves old new
  goes : (F : Frame) → old.frames ≡ F ∷ new.frames → new.low ≡ F.address → old.returns ≡ F.back ∷ new.returns → Moves old new

-- before the first call: main's frame may stand at the top of the stack, and comes back to the end service
abbrev pub first_spot : Spot
first_spot = record { frames = []; low = stack_top; returns = 0 ∷ [] }

-- the same frames, where a spawned call begins, which comes back to the end service
abbrev pub spawned_spot : Spot → Spot
spawned_spot spot = record { frames = spot.frames; low = spot.low; returns = 0 ∷ [] }

-- the same frames, with the next one to stand at another address
abbrev pub spot_at : Spot → (low : ℕ) → Spot
spot_at spot low = record { frames = spot.frames; low = low; returns = spot.returns }

-- where the last so many frames go back to
abbrev pub backs : (count : ℕ) → List Frame → List ℕ
backs zero frames = []
backs (suc n) [] = []
backs (suc n) (F ∷ frames) = F.back ∷ backs n frames

-- The returns of a state whose rest ends so many frames: those of the frames, and before them, of a call at hand that has no
-- frame yet, what is in RA.
abbrev pub returns_at : Hand → (ends : ℕ) → List Frame → (registers : ℕ → ℕ) → List ℕ
returns_at (entering f ws) n frames r = r reg.RA ∷ backs n frames
returns_at (framing f ws) n frames r = r reg.RA ∷ backs n frames
returns_at _ n frames r = backs n frames

-- each word between two addresses is mapped, and may be written
abbrev pub AreMapped : (from to : ℕ) → Mapped → Type 0
AreMapped from to w = (a : ℕ) → a % 4 ≡ 0 → from ≤ a → a < to → IsWritable (w a)

-- the word of a value that a call came back with
abbrev pub IsResult : Option ℤ → (word : ℕ) → Type 0
IsResult None n = ⊤
IsResult (Some v) n = (n ≡ bits v) × FitsSigned w32 v

-- the registers have the words of arguments, last first
abbrev pub Handed : Program → (page : ℕ) → (calls : List ℕ) → List Frame → (registers : ℕ → ℕ) → List Argument → Type 0
Handed program page calls frames r [] = ⊤
Handed program page calls frames r (word v ∷ ws) = (r (reg.RESULT + arguments_size ws) ≡ bits v) × FitsSigned w32 v × Handed program page calls frames r ws
Handed program page calls frames r (slice s ∷ ws) = (r (reg.RESULT + arguments_size ws) ≡ reference_address program page calls frames s)
    × (r (reg.RESULT + arguments_size ws + 1) ≡ s.length) × Handed program page calls frames r ws

-- the machine behind a service that doesn't reply
abbrev pub passed : Machine → Machine
passed m = record { registers = m.registers; counter = m.counter + 4; words = m.words }

-- the machine with other words
abbrev pub with_words : Machine → Mapped → Machine
with_words m w = record { registers = m.registers; counter = m.counter; words = w }

-- the machine with other registers
abbrev pub with_registers : Machine → (ℕ → ℕ) → Machine
with_registers m r = record { registers = r; counter = m.counter; words = m.words }

-- the machine at which the child of a spawn begins: with no return address, at the callee's word in the table
abbrev pub child_machine : Machine → Machine
child_machine m = record { registers = λ r. if r == reg.RA then 0 else m.registers r; counter = m.registers reg.VALUE; words = m.words }

module _ (program : Program) (form : Form) (page : ℕ) (input : List ℤ) (code : Code) where
  -- behind the tick of a function's entry
  abbrev pub EntryAt : (f p : ℕ) → Type 0
  EntryAt f p = (function : Function ℕ) × (slice_get program.functions f ≡ Some function) × (e : HasEntry form page code f function) × (p ≡ e.entry + 16)

  -- What is at hand, and where the rest stands: a value is in VALUE, what a call came back with in RESULT; the arguments
  -- of a call are in registers, and its way back is in RA.
  abbrev pub Placed : Hand → List Item → (calls : List ℕ) → List Frame → (registers : ℕ → ℕ) → (counter : ℕ) → Type 0
  Placed idle k calls frames r p = Coded program form page code k calls frames p
  Placed (holds v) k calls frames r p = (r reg.VALUE ≡ bits v) × FitsSigned w32 v × Coded program form page code k calls frames p
  Placed (returned None) k calls frames r p = Coded program form page code k calls frames p
  Placed (returned (Some v)) k calls frames r p = (r reg.RESULT ≡ bits v) × FitsSigned w32 v × Coded program form page code k calls frames p
  Placed (entering f ws) k calls frames r p = (p ≡ table_word f) × Handed program page calls frames r ws
      × (r reg.RA % 4 ≡ 0) × (r reg.RA < 2 ^ 30) × LeadsTo code (Coded program form page code k calls frames) (r reg.RA)
  Placed (framing f ws) k calls frames r p = EntryAt f p × Handed program page calls frames r ws
      × (r reg.RA % 4 ≡ 0) × (r reg.RA < 2 ^ 30) × LeadsTo code (Coded program form page code k calls frames) (r reg.RA)

  -- The machine stands exactly for a state with so many ticks left, with its frames at this spot.
  pub record ExactAt (spot : Spot) (left : ℕ) (c : Control) (h : Stack) (m : Machine) : Type 0 where
    pub frames : AreFrames program page c.calls spot.frames
    pub may_stand : MayStand program page c.calls spot.frames spot.low
    pub slots : Holds program page c.calls spot.frames h m.words
    pub kept : Kept program page c.rest c.calls spot.frames h m.words
    pub own : HasOwn program page (end_count c.rest) c.calls spot.frames m.words
    pub returns_are : spot.returns ≡ returns_at c.hand (end_count c.rest) spot.frames m.registers
    pub zero_is : m.registers reg.ZERO ≡ 0
    pub low_is : m.registers reg.SP ≡ spot.low
    pub account_is : m.registers reg.ACCOUNT ≡ c.account
    pub left_is : m.registers reg.TICKS ≡ left
    pub pointer_is : m.registers reg.FP ≡ pointer_of spot.frames
    pub placed : LeadsTo code (Placed c.hand c.rest c.calls spot.frames m.registers) m.counter

  -- it does so with its frames somewhere
  abbrev pub Exact : (left : ℕ) → Control → Stack → Machine → Type 0
  Exact left c h m = (spot : Spot) × ExactAt spot left c h m

  -- the same, where no frame moved from a spot before, and no call was made or came back
  abbrev pub ExactFrom : Spot → (left : ℕ) → Control → Stack → Machine → Type 0
  ExactFrom old left c h m = (spot : Spot) × Moves old spot × (spot.returns ≡ old.returns) × ExactAt spot left c h m

  -- ---- services

  -- the machine is at a service
  pub record Serves (number : ℕ) (m : Machine) : Type 0 where
    pub there : code m.counter ecall
    pub number_is : m.registers reg.SERVICE ≡ number

  -- where a program's own error ends the run: at a service for it, or at one that asks for a number that the input
  -- doesn't have
  abbrev pub Traps : Trap → Machine → Type 0
  Traps kind.Divide m = Serves 7 m
  Traps kind.Index m = Serves 8 m
  Traps kind.Stack m = Serves 9 m
  Traps kind.Input m = Serves 2 m × (v : ℤ) × (m.registers reg.VALUE ≡ bits v) × FitsSigned w32 v × (is_index v (length input) ≡ false)

  -- the word with which a service replies: a number of the input, or how many it has
  abbrev pub Reply : Machine → (word : ℕ) → Type 0
  Reply m n = (Serves 2 m × (v : ℤ) × (slice_get input (m.registers reg.VALUE) ≡ Some v) × (n ≡ bits v)) ⊎ (Serves 3 m × (n ≡ length input))

  -- the address of a destination, or 0
  abbrev pub destination_address : (calls : List ℕ) → List Frame → Destination → ℕ
  destination_address calls frames None = 0
  destination_address calls frames (Some x) = reference_address program page calls frames (scalar_slice x.depth x.slot)

  -- A spawn is at service 4, with the callee's address in the table and that of the destination. The child begins there with
  -- what it is lent, and behind the service the continuation stands with what it keeps.
  pub record Spawns (spot : Spot) (left : ℕ) (child : Control) (lent : Stack) (x : Destination) (c : Control) (kept : Stack) (m : Machine) : Type 0 where
    pub serves : Serves 4 m
    pub destination : m.registers reg.LEFT ≡ destination_address c.calls spot.frames x
    pub child_stands : ExactAt (spawned_spot spot) left child lent (child_machine m)
    pub goes_on : ExactAt spot left c kept (passed m)

  -- ---- where the code of a step arrives

  -- so many instructions, none of them a service, a call or a return, lead to a machine that stands for a state
  pub record Reaches (old : Spot) (left : ℕ) (c : Control) (h : Stack) (m : Machine) : Type 0 where
    pub count : ℕ
    pub last : Machine
    pub goes_to : GoesTo code count m last
    pub stands : ExactFrom old left c h last

  -- The first store into a new frame, at its lowest word. Only here a word may be missing: with whatever words, once those of
  -- the frame are mapped, it goes on.
  pub record Opens (old : Spot) (left : ℕ) (f : ℕ) (c : Control) (h : Stack) (m : Machine) : Type 0 where
    pub store : Stands code m.counter (sw reg.ZERO reg.SP (pos 0))
    pub low_end : m.registers reg.SP ≡ old.low - bytes_of program page f
    pub goes_on : (w : Mapped) → Extends m.words w → AreMapped (old.low - bytes_of program page f) old.low w
        → Reaches old left c h (with_words m w)

  -- The last instruction of a call or of a return: with it the machine stands for a state, and the returns are those that the
  -- instruction leaves.
  pub record Turns (old : Spot) (left : ℕ) (c : Control) (h : Stack) (m : Machine) : Type 0 where
    pub next : Machine
    pub step : StepsTo code m next
    pub spot : Spot
    pub moves : Moves old spot
    pub links : Links (link_of step.instruction) m next old.returns spot.returns
    pub stands : ExactAt spot left c h next

  -- The machine at which a silent step arrives: it stands for the next state; or it is at the last instruction of a call or a
  -- return; or it is at a service that replies with a number of the input or their count, and stands for the next state with
  -- each such reply; or a frame is opened, next to those of the calls before.
  pub data Comes (old : Spot) (left : ℕ) (c : Control) (h : Stack) (m : Machine) : Type 0 where
    stands : ExactFrom old left c h m → Comes old left c h m
    turns : Turns old left c h m → Comes old left c h m
    hears : (n : ℕ) → Reply m n → ExactAt old left c h (replied_machine m (Some n)) → Comes old left c h m
    opens : (f : ℕ) (calls : List ℕ) → c.calls ≡ f ∷ calls → AreFrames program page calls old.frames → MayStand program page calls old.frames old.low
        → Opens old left f c h m → Comes old left c h m

  -- A spawn and a sync, by the form of the running function: a call in the elision, and nothing; or services.
  abbrev pub ArrivesSpawn : Form → (old : Spot) → (left : ℕ) → (h : Stack) → (child : Control) → (lent : Stack) → Destination → Control → (kept : Stack) → Machine → Type 0
  ArrivesSpawn Serial old left h child lent x c kept m = Turns old left (inside child x c) h m
  ArrivesSpawn Cilk old left h child lent x c kept m = Spawns old left child lent x c kept m

  abbrev pub ArrivesSync : Form → (old : Spot) → (left : ℕ) → (h : Stack) → Control → Machine → Type 0
  ArrivesSync Serial old left h c m = ExactAt old left c h m
  ArrivesSync Cilk old left h c m = Serves 5 m × ExactAt old left c h (passed m)

  -- What is said of the machine at which the code of a step arrives, from a state with these calls and this stack. Where the
  -- run ends by a value, what is held is in its words.
  abbrev pub Arrives : (old : Spot) → (left : ℕ) → (calls : List ℕ) → (h : Stack) → Move → Machine → Type 0
  Arrives old left calls h (silent c g) m = Comes old left c g m
  Arrives old zero calls h (ticks c g) m = Serves 6 m × (m.registers reg.TICKS ≡ 0)
  Arrives old (suc left) calls h (ticks c g) m = ExactAt old left c g m
  Arrives old left calls h (prints v c g) m = Serves 1 m × (m.registers reg.VALUE ≡ bits v) × ExactAt old left c g (passed m) × FitsSigned w32 v
  Arrives old left calls h (spawns child lent x c kept) m = ArrivesSpawn (form_here program form calls) old left h child lent x c kept m
  Arrives old left calls h (syncs c) m = ArrivesSync (form_here program form calls) old left h c m
  Arrives old left calls h (traps k) m = Traps k m × (m.registers reg.TICKS ≡ left)
  Arrives old left calls h (ends v) m = Serves 0 m × IsResult v (m.registers reg.RESULT) × (m.registers reg.TICKS ≡ left)
      × Holds program page calls old.frames h m.words
  Arrives old left calls h stuck m = ⊤

  -- So many instructions, none of them a service, a call or a return, lead to where the step arrives.
  pub record LeadsFrom (old : Spot) (left : ℕ) (calls : List ℕ) (h : Stack) (move : Move) (m : Machine) : Type 0 where
    pub count : ℕ
    pub last : Machine
    pub goes_to : GoesTo code count m last
    pub arrives : Arrives old left calls h move last

-- A machine at the start of a run: the stack pointer at the top of the stack, the account and the ticks in their registers and
-- 0 in all others, at the word of main in the table. Nothing is said of the mapped words.
pub record Begins (program : Program) (account ticks : ℕ) (m : Machine) : Type 0 where
  pub registers : (r : ℕ) → m.registers r ≡ start_registers account ticks r
  pub counter : m.counter ≡ table_word program.main
