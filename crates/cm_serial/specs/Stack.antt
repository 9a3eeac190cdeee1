-- The stack as a list of words, and the machine of a hart over it.
use Rattle.std.specs.Prelude.{ℕ, ◌-◌, ◌*◌, ◌/◌, nat_lt, if◌then◌else◌, List, length, slice_index, replicate}
use Rattle.cm_isa.specs.Register.{put}
use Rattle.cm_isa.specs.View.{View, full_where}
use Rattle.cm_isa.specs.Machine.{Machine, machine_of}
use Rattle.cm_isa.specs.declared.convention.TheConstants as reg
use Rattle.cm_isa.specs.declared.memory.Shown.{Shown}
use Rattle.cm_isa.specs.declared.memory.Shown.TheVariants.{Place, Outside}
use Rattle.cm_gen.specs.Run.{stack_top}
use Rattle.cm_gen.specs.Part.{table_word}

-- the lowest address of a stack of so many words
abbrev pub stack_low : (count : ℕ) → ℕ
stack_low count = stack_top - 4 * count

-- what a stack of so many words shows at an address: the word that holds it, from the lowest word on
abbrev pub stack_shown : (count address : ℕ) → Shown
stack_shown count address =
    if nat_lt address (stack_low count) then Outside else if nat_lt address stack_top then Place ((address - stack_low count) / 4) else Outside

-- the stack as an instruction sees it: each of its words may be read and written
abbrev pub stack_view : (stack : List ℕ) → View
stack_view stack = record { shown = stack_shown (length stack); access = λ place. full_where (nat_lt place (length stack)); word_at = slice_index stack }

-- the registers at the start of a run
abbrev pub first_registers : (account ticks : ℕ) → List ℕ
first_registers account ticks = put (put (put (replicate 32 0) reg.SP stack_top) reg.ACCOUNT account) reg.TICKS ticks

-- the machine at the start of a run over a stack, at the word of main in the table
abbrev pub machine_over : (stack : List ℕ) → (account ticks main : ℕ) → Machine
machine_over stack account ticks main = machine_of (stack_view stack) (first_registers account ticks) (table_word main)

-- the same over a stack of so many bytes, each word of which is 0
abbrev pub start_machine : (account ticks main : ℕ) → Machine
start_machine account ticks main = machine_over (replicate (account / 4) 0) account ticks main
