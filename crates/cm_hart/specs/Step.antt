-- What one step of a hart leaves, and when it may be taken.
use Rattle.std.specs.Prelude.{◌≡◌, ℕ, List, slice_index, Option}
use Rattle.cm_isa.specs.Address.{InstructionAt}
use Rattle.cm_isa.specs.Action.{action_at, follow}
use Rattle.cm_isa.specs.Effect.{MayAccess, Outcome, outcome}
use Rattle.cm_isa.specs.Machine.{Machine, machine_of}
use Rattle.cm_isa.specs.Operation.{Operation}
use Rattle.cm_isa.specs.Register.{put_result}
use Rattle.cm_isa.specs.View.{View}
use Rattle.cm_isa.specs.declared.convention.TheConstants as reg
use Rattle.cm_isa.specs.declared.execution.Next.{Next}
use Rattle.cm_isa.specs.declared.execution.Next.TheVariants as next
use Rattle.cm_hart.specs.declared.hart.Hart.{Hart}
use Rattle.cm_hart.specs.declared.hart.Halt.{Halt}
use Rattle.cm_hart.specs.declared.hart.Halt.TheVariants.{Going, Service, PageFault, Fault}

-- the answer where this comes next and x31 has this word
abbrev pub halt_of : Next → (x31 : ℕ) → Halt
halt_of (next.At address) x31 = Going
halt_of next.Service x31 = Service x31
halt_of (next.PageFault address) x31 = PageFault address
halt_of (next.Fault kind address) x31 = Fault kind address

-- the pc where this comes next: the next address where it goes on, else the pc as it was
abbrev pub pc_after : Next → (pc : ℕ) → ℕ
pc_after (next.At address) pc = address
pc_after next.Service pc = pc
pc_after (next.PageFault address) pc = pc
pc_after (next.Fault kind address) pc = pc

-- the hart after an instruction at pc with this outcome
abbrev pub hart_after : Outcome → (pc : ℕ) → Hart
hart_after after pc = record { regs = after.registers; pc = pc_after after.next pc }

-- what an instruction at the pc of a hart leaves
abbrev pub hart_outcome : View → Operation → Hart → Outcome
hart_outcome view i hart = outcome view i hart.regs hart.pc

-- the answer, the hart and the memory are those of the outcome of an instruction of this hart
pub record HasHartOutcome (after : Outcome) (hart : Hart) (answer : Halt) (new : Hart) (memory : View) : Type 0 where
  pub halt_is : answer ≡ halt_of after.next (slice_index hart.regs reg.SERVICE)
  pub hart_is : new ≡ hart_after after hart.pc
  pub memory_is : memory ≡ after.memory

-- where an instruction is at the pc and touches a place, this place is allowed
abbrev pub MayStep : View → (image : List ℕ) → Hart → Type 0
MayStep view image hart = (i : Operation) → InstructionAt image hart.pc i → MayAccess view (action_at i (slice_index hart.regs) hart.pc)

-- the machine of a hart over a view
abbrev pub hart_machine : View → Hart → Machine
hart_machine view hart = machine_of view hart.regs hart.pc

-- the hart after the reply to an `ecall`: x5 takes the word, if there is one, and the next instruction follows
abbrev pub replied_hart : Hart → (reply : Option ℕ) → Hart
replied_hart hart reply = record { regs = put_result hart.regs reg.VALUE reply; pc = follow hart.pc }
