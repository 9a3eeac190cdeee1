-- A run of one hart: its steps, of instructions and of services, up to the service that ends it. The machine is that of the
-- instructions alone; nothing of the code that runs it is named.
use Rattle.std.specs.Prelude.{◌≡◌, ℕ, suc, ◌+◌, ◌*◌, ◌-◌, ◌%◌, ◌<◌, ◌≤◌, ℤ, None, Some, List, [], ◌∷◌, ◌++◌}
use Rattle.std.specs.Int.{w32, cast_signed}
use Rattle.cm_isa.specs.Address.{AreWordsOf, InstructionAt}
use Rattle.cm_isa.specs.Operation.{ecall}
use Rattle.cm_isa.specs.Machine.{Machine, Mapped, IsWritable, Code, StepsTo}
use Rattle.cm_isa.specs.Run.{replied_machine}
use Rattle.cm_isa.specs.declared.convention.TheConstants as reg
use Rattle.cm_syntax.specs.declared.stmt.Program.{Program}
use Rattle.cm_meaning.specs.End.{End, Done, Trapped, Spent}
use Rattle.cm_meaning.specs.Ended.{trap_of}
use Rattle.cm_meaning.specs.Meaning.{Limits}
use Rattle.cm_gen.specs.declared.form.Form.TheVariants.{Serial}
use Rattle.cm_gen.specs.Run.{stack_top, start_registers}
use Rattle.cm_gen.specs.Part.{table_word}
use Rattle.cm_gen.specs.Image.{image_of}
use Rattle.cm_serial.specs.declared.service.Stop.{Stop}
use Rattle.cm_serial.specs.declared.service.Stop.TheVariants as stop
use Rattle.cm_serial.specs.declared.service.Answer.{Answer}
use Rattle.cm_serial.specs.declared.service.Answer.TheVariants as answer
use Rattle.cm_serial.specs.Service.{answer_at}
use Rattle.cm_serial.specs.Stack.{start_machine}

-- ---- runs

-- How a run is stopped at a service where these numbers were printed and the registers have these words: the value of main is
-- in RESULT, and of so many ticks those are taken that TICKS doesn't have.
abbrev pub StopsAs : (ticks : ℕ) → Stop → (printed : List ℤ) → (registers : ℕ → ℕ) → End → Type 0
StopsAs ticks stop.Value printed r e = (used : ℕ) × (used + r reg.TICKS ≡ ticks) × (e ≡ Done printed (Some (cast_signed w32 (r reg.RESULT))) used)
StopsAs ticks (stop.Trap kind) printed r e = (used : ℕ) × (used + r reg.TICKS ≡ ticks) × (e ≡ Trapped printed (trap_of kind) used)
StopsAs ticks stop.Spent printed r e = e ≡ Spent

-- the machine is at a service at which the environment does this
pub record Asks (code : Code) (input : List ℤ) (done : Answer) (m : Machine) : Type 0 where
  pub there : code m.counter ecall
  pub answer_is : answer_at input (m.registers reg.SERVICE) (m.registers reg.VALUE) ≡ done

module _ (code : Code) (input : List ℤ) (ticks : ℕ) where
  -- The run of a machine that has printed these numbers ends so, in so many steps: each instruction is one, and so is each
  -- service, with the one that ends the run.
  pub data RunEnds : Machine → (printed : List ℤ) → (steps : ℕ) → End → Type 0 where
    stops : {m : Machine} {printed : List ℤ} {e : End} (by : Stop)
        → Asks code input (answer.Stops by) m → StopsAs ticks by printed m.registers e → RunEnds m printed 1 e
    step : {m next : Machine} {printed : List ℤ} {steps : ℕ} {e : End}
        → StepsTo code m next → RunEnds next printed steps e → RunEnds m printed (suc steps) e
    prints : {m : Machine} {printed : List ℤ} {steps : ℕ} {e : End}
        → Asks code input answer.Prints m → RunEnds (replied_machine m None) (printed ++ cast_signed w32 (m.registers reg.VALUE) ∷ []) steps e
        → RunEnds m printed (suc steps) e
    hears : {m : Machine} {printed : List ℤ} {steps : ℕ} {e : End} (word : ℕ)
        → Asks code input (answer.Replies word) m → RunEnds (replied_machine m (Some word)) printed steps e → RunEnds m printed (suc steps) e

-- ---- programs

-- the bytes of the stack
abbrev pub stack_bytes : Limits → ℕ
stack_bytes limits = limits.stack * limits.page

-- each word of a stack of so many bytes is mapped
abbrev pub HasStack : (bytes : ℕ) → Mapped → Type 0
HasStack bytes w = (a : ℕ) → a % 4 ≡ 0 → stack_top - bytes ≤ a → a < stack_top → IsWritable (w a)

-- A machine at the start of a program's run: at main's word in the table, with the top of the stack, the account and the ticks
-- in their registers and 0 in all others, and with the whole stack mapped.
pub record IsStart (program : Program) (limits : Limits) (m : Machine) : Type 0 where
  pub registers : (r : ℕ) → m.registers r ≡ start_registers (stack_bytes limits) limits.ticks r
  pub counter : m.counter ≡ table_word program.main
  pub mapped : HasStack (stack_bytes limits) m.words

-- the number of steps of a program's run, from the start with a stack of zeros up to the service that ends it, this one too
abbrev pub IsSteps : Program → (input : List ℤ) → Limits → (steps : ℕ) → Type 0
IsSteps program input limits steps = (words : List ℕ) → AreWordsOf words (image_of program Serial limits.page)
    → (e : End) × RunEnds (InstructionAt words) input limits.ticks (start_machine (stack_bytes limits) limits.ticks program.main) [] steps e
