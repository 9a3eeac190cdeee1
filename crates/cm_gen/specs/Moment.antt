-- Between two instructions: a machine stands for a state with its frames at a spot, exactly or within the instructions of the
-- state's next step. From one instruction to the next it passes on, and no frame moves on the way; at a service it is told what
-- the state's step is.
use Rattle.std.specs.Prelude.{◌≡◌, ℕ, suc, ◌<◌, ◌⊎◌, true, false, ℤ, pos, Option, Some, FitsSigned, List, ◌∷◌, length}
use Rattle.std.specs.Int.{w32}
use Rattle.cm_isa.specs.declared.convention.TheConstants as reg
use Rattle.cm_isa.specs.Machine.{Machine, Mapped, IsWritable, Code, StepsTo}
use Rattle.cm_isa.specs.Run.{replied_machine}
use Rattle.cm_syntax.specs.declared.stmt.Program.{Program}
use Rattle.cm_syntax.specs.Trap.{Trap}
use Rattle.cm_syntax.specs.Label.{silent, ticks, prints, spawns, syncs, traps, ends, stuck}
use Rattle.cm_syntax.specs.Cell.{may_write}
use Rattle.cm_syntax.specs.Stack.{Stack, Destination}
use Rattle.cm_syntax.specs.Rest.{Control}
use Rattle.cm_syntax.specs.Step.{step, inside}
use Rattle.cm_meaning.specs.TypedState.{slots_at}
use Rattle.cm_gen.specs.declared.form.Form.{Form}
use Rattle.cm_gen.specs.declared.form.Form.TheVariants.{Serial, Cilk}
use Rattle.cm_gen.specs.Assembler.{sw}
use Rattle.cm_gen.specs.Returns.{link_of, Links}
use Rattle.cm_gen.specs.Standing.{Frame, form_here}
use Rattle.cm_gen.specs.FrameWord.{bits, IsPlace, word_number, word_address, AreFrames, cell_at, Holds}
use Rattle.cm_gen.specs.StandsFor.{Spot, Moves, AreMapped, IsResult, ExactAt, LeadsFrom, Serves, Traps, Reply, Spawns, passed}

-- where two parts of a word, neither of which is the whole, come to the whole of it, the word may be written
abbrev pub WholesAreWritable : Program → (page : ℕ) → (calls : List ℕ) → List Frame → (h more all : Stack) → Mapped → Type 0
WholesAreWritable program page calls frames h more all w = (d s i : ℕ) → d < length calls → IsPlace (slots_at program calls d) s i
    → may_write (cell_at program page calls frames h d s i) ≡ false → may_write (cell_at program page calls frames more d s i) ≡ false
    → may_write (cell_at program page calls frames all d s i) ≡ true → IsWritable (w (word_address frames d (word_number (slots_at program calls d) s i)))

-- calls and their frames go together: they are the same, or one more came of each, or the last one went of each
pub data InStep (calls : List ℕ) (frames : List Frame) (calls_later : List ℕ) (frames_later : List Frame) : Type 0 where
  both_stay : calls_later ≡ calls → frames_later ≡ frames → InStep calls frames calls_later frames_later
  both_come : (f : ℕ) (F : Frame) → calls_later ≡ f ∷ calls → frames_later ≡ F ∷ frames → InStep calls frames calls_later frames_later
  both_go : (f : ℕ) (F : Frame) → calls ≡ f ∷ calls_later → frames ≡ F ∷ frames_later → InStep calls frames calls_later frames_later

-- from one state to the next no frame moves, and the frames go with the calls
pub record Shift (old new : Spot) (c d : Control) : Type 0 where
  pub moves : Moves old new
  pub in_step : InStep c.calls old.frames d.calls new.frames

module _ (program : Program) (form : Form) (page : ℕ) (input : List ℤ) where
  -- From one state with so many ticks left to another one by steps that show nothing: silent ones, ticks, and in a function of
  -- the serial form spawns, which are calls, and syncs. No frame moves on the way.
  pub data Passes : (old : Spot) (left : ℕ) → Control → Stack → (new : Spot) (later : ℕ) → Control → Stack → Type 0 where
    here : {spot : Spot} {left : ℕ} {c : Control} {h : Stack} → Passes spot left c h spot left c h
    quiet : {old middle new : Spot} {left later : ℕ} {c d e : Control} {h g k : Stack} → step program page input c h ≡ silent d g
        → Shift old middle c d → Passes middle left d g new later e k → Passes old left c h new later e k
    tick : {old new : Spot} {left later : ℕ} {c d e : Control} {h g k : Stack} → step program page input c h ≡ ticks d g
        → d.calls ≡ c.calls → Passes old left d g new later e k → Passes old (suc left) c h new later e k
    call : {old middle new : Spot} {left later : ℕ} {c d e child : Control} {h k lent kept : Stack} {x : Destination} → form_here program form c.calls ≡ Serial
        → step program page input c h ≡ spawns child lent x d kept → Shift old middle c (inside child x d)
        → Passes middle left (inside child x d) h new later e k → Passes old left c h new later e k
    join : {old new : Spot} {left later : ℕ} {c d e : Control} {h k : Stack} → form_here program form c.calls ≡ Serial
        → step program page input c h ≡ syncs d → d.calls ≡ c.calls → Passes old left d h new later e k → Passes old left c h new later e k

module _ (program : Program) (form : Form) (page : ℕ) (input : List ℤ) (code : Code) where
  -- A machine stands for a state with so many ticks left, with its frames at this spot: exactly, or within the instructions of
  -- the state's next step, of which it has those that are still to come.
  abbrev pub StandsFor : Spot → (left : ℕ) → Control → Stack → Machine → Type 0
  StandsFor spot left c h m = ExactAt program form page input code spot left c h m
      ⊎ LeadsFrom program form page input code spot left c.calls h (step program page input c h) m

  -- where the machine is at the first store into a new frame, the words from there up to where the frame may stand are mapped
  abbrev pub MapsFrame : Spot → Machine → Type 0
  MapsFrame spot m = code m.counter (sw reg.ZERO reg.SP (pos 0)) → AreMapped (m.registers reg.SP) spot.low m.words

  -- Behind an instruction a machine stands for a state that the one before passes to, with a frame for each call and with the
  -- returns that the instruction leaves, unless that is a state that no rule has.
  pub record GoesOn (old : Spot) (left : ℕ) (c : Control) (h : Stack) (m next : Machine) : Type 0 where
    pub spot : Spot
    pub later : ℕ
    pub to : Control
    pub held : Stack
    pub passes : Passes program form page input old left c h spot later to held
    pub frames : AreFrames program page to.calls spot.frames
    pub stands_for : (StandsFor spot later to held next × ((s : StepsTo code m next) → Links (link_of s.instruction) m next old.returns spot.returns))
        ⊎ (step program page input to held ≡ stuck)

  -- What a machine at a service is told of the state's step, and for what the machine behind the service stands. Only in the
  -- Cilk form spawns and syncs are services.
  pub data AtService (spot : Spot) (left : ℕ) (c : Control) (h : Stack) (m : Machine) : Type 0 where
    at_print : (v : ℤ) (d : Control) (g : Stack) → step program page input c h ≡ prints v d g → Serves program form page input code 1 m
        → m.registers reg.VALUE ≡ bits v → FitsSigned w32 v → d.calls ≡ c.calls → ExactAt program form page input code spot left d g (passed m) → AtService spot left c h m
    at_reply : (n : ℕ) (d : Control) (g : Stack) → step program page input c h ≡ silent d g → Reply program form page input code m n
        → d.calls ≡ c.calls → ExactAt program form page input code spot left d g (replied_machine m (Some n)) → AtService spot left c h m
    at_spawn : (child : Control) (lent : Stack) (x : Destination) (d : Control) (kept : Stack) → step program page input c h ≡ spawns child lent x d kept
        → form_here program form c.calls ≡ Cilk → d.calls ≡ c.calls → Spawns program form page input code spot left child lent x d kept m → AtService spot left c h m
    at_sync : (d : Control) → step program page input c h ≡ syncs d → form_here program form c.calls ≡ Cilk → Serves program form page input code 5 m
        → d.calls ≡ c.calls → ExactAt program form page input code spot left d h (passed m) → AtService spot left c h m
    at_spent : (d : Control) (g : Stack) → step program page input c h ≡ ticks d g → left ≡ 0 → Serves program form page input code 6 m
        → m.registers reg.TICKS ≡ left → AtService spot left c h m
    at_trap : (k : Trap) → step program page input c h ≡ traps k → Traps program form page input code k m → m.registers reg.TICKS ≡ left → AtService spot left c h m
    at_end : (v : Option ℤ) → step program page input c h ≡ ends v → Serves program form page input code 0 m → IsResult v (m.registers reg.RESULT)
        → m.registers reg.TICKS ≡ left → Holds program page c.calls spot.frames h m.words → AtService spot left c h m

  -- A machine at a service passes on, by no instruction, to the state whose step comes there, unless that is a state that no
  -- rule has. The returns are as they were.
  pub record Settles (old : Spot) (left : ℕ) (c : Control) (h : Stack) (m : Machine) : Type 0 where
    pub spot : Spot
    pub later : ℕ
    pub to : Control
    pub held : Stack
    pub passes : Passes program form page input old left c h spot later to held
    pub frames : AreFrames program page to.calls spot.frames
    pub returns : spot.returns ≡ old.returns
    pub service : AtService spot later to held m ⊎ (step program page input to held ≡ stuck)
