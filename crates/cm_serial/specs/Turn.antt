-- What one step of a run leaves, an instruction or a service.
use Rattle.std.specs.Prelude.{◌≡◌, ℕ, suc, ℤ, Option, None, Some, List, [], ◌∷◌, ◌++◌, slice_index}
use Rattle.std.specs.Int.{w32, cast_signed}
use Rattle.cm_isa.specs.Machine.{Machine, Code}
use Rattle.cm_isa.specs.declared.convention.TheConstants as reg
use Rattle.cm_hart.specs.declared.hart.Hart.{Hart}
use Rattle.cm_hart.specs.Step.{replied_hart}
use Rattle.cm_meaning.specs.End.{End}
use Rattle.cm_meaning.specs.Output.{Entry, Number}
use Rattle.cm_serial.specs.declared.service.Stop.{Stop}
use Rattle.cm_serial.specs.declared.service.Answer.{Answer}
use Rattle.cm_serial.specs.declared.service.Answer.TheVariants as answer
use Rattle.cm_serial.specs.Run.{RunEnds, StopsAs}

-- Where the run from before the step ends so in so many steps, the run from behind it has one step fewer; or it is stopped, and
-- this was its last step.
abbrev pub Leaves : Code → (input : List ℤ) → (ticks : ℕ) → Option Stop → Machine → (printed : List ℤ) → (steps : ℕ) → End → Type 0
Leaves code input ticks None m printed steps e = (left : ℕ) × (steps ≡ suc left) × RunEnds code input ticks m printed left e
Leaves code input ticks (Some by) m printed steps e = (steps ≡ 1) × StopsAs ticks by printed m.registers e

-- what is done at a service: whether it stops the run, the hart after it, and what is printed
abbrev pub DoneAt : Answer → Option Stop → (old new : Hart) → (before after : List Entry) → Type 0
DoneAt answer.Prints stop old new before after =
    (stop ≡ None) × (new ≡ replied_hart old None) × (after ≡ before ++ Number (cast_signed w32 (slice_index old.regs reg.VALUE)) ∷ [])
DoneAt (answer.Replies word) stop old new before after = (stop ≡ None) × (new ≡ replied_hart old (Some word)) × (after ≡ before)
DoneAt (answer.Stops by) stop old new before after = (stop ≡ Some by) × (new ≡ old) × (after ≡ before)
DoneAt answer.Nothing stop old new before after = ⊥
