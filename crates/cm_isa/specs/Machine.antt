-- A hart over a partial map of words, and its steps (RISC-V Unprivileged ISA, RV32I and M). The laws of the code are said
-- over such a map: whatever a pattern reads or writes has to be mapped, and whatever it doesn't name is kept.
use Rattle.std.specs.Prelude.{◌≡◌, ℕ, ◌+◌, ◌-◌, ◌%◌, ◌==◌, if◌then◌else◌, List, [], ◌∷◌, Option, None, Some, slice_index}
use Rattle.cm_isa.specs.Register.{with_result}
use Rattle.cm_isa.specs.View.{View, Access, no_access, read_access, full_access}
use Rattle.cm_isa.specs.Operation.{Operation}
use Rattle.cm_isa.specs.Action.{Action, action_at}
use Rattle.cm_isa.specs.Effect.{Cell, word_in, nothing, Change, action_change}
use Rattle.cm_isa.specs.declared.memory.Shown.{Shown}
use Rattle.cm_isa.specs.declared.memory.Shown.TheVariants as shown
use Rattle.cm_isa.specs.declared.execution.Next.{Next}
use Rattle.cm_isa.specs.declared.execution.Next.TheVariants.{At, Service, PageFault, Fault}

-- words by the address of their lowest byte
abbrev pub WordMap : Type 0
WordMap = ℕ → Option ℕ

-- What is mapped at an address: nothing, a word that may be read and written, or one that may only be read.
pub data Stored : Type 0 where
  unmapped : Stored
  writable : ℕ → Stored
  read_only : ℕ → Stored

-- what is mapped, by the address of the lowest byte
abbrev pub Mapped : Type 0
Mapped = ℕ → Stored

-- a word that may be written
abbrev pub IsWritable : Stored → Type 0
IsWritable unmapped = ⊥
IsWritable (writable w) = Unit {0}
IsWritable (read_only w) = ⊥

-- the word that may be read, and the one that may be written
abbrev pub reads : Stored → Option ℕ
reads unmapped = None
reads (writable w) = Some w
reads (read_only w) = Some w

abbrev pub writes : Stored → Option ℕ
writes unmapped = None
writes (writable w) = Some w
writes (read_only w) = None

-- the registers' words, the program counter, and the mapped words
pub record Machine : Type 0 where
  pub registers : ℕ → ℕ
  pub counter : ℕ
  pub words : Mapped

-- a machine with these registers at this address, and with the words as they were
abbrev pub machine_with : Machine → (ℕ → ℕ) → (counter : ℕ) → Machine
machine_with m registers counter = record { registers = registers; counter = counter; words = m.words }

-- the word at an address is this one, and every other word is as it was
abbrev pub with_word : Mapped → (address word : ℕ) → Mapped
with_word words address word a = if a == address then writable word else words a

-- the words after a word is put at an address, if one is
abbrev pub with_write : Mapped → Option (ℕ × ℕ) → Mapped
with_write words (Some write) = with_word words write.0 write.1
with_write words None = words

-- the words that may be read, and those that may be written
abbrev pub readable_words : Mapped → WordMap
readable_words words address = reads (words address)

abbrev pub writable_words : Mapped → WordMap
writable_words words address = writes (words address)

-- the address of the word that holds the byte at this address
abbrev pub word_address : ℕ → ℕ
word_address address = address - address % 4

-- the cell of a word that may be mapped; its place is its address
abbrev pub word_cell : Option ℕ → (address : ℕ) → Cell
word_cell (Some word) address = word_in address word
word_cell None address = nothing

-- what the mapped words have at an address
abbrev pub mapped_cell : WordMap → (address : ℕ) → Cell
mapped_cell words address = word_cell (words (word_address address)) (word_address address)

-- the machine that a change leaves where this comes next, and None where no instruction follows
abbrev pub next_machine : Next → (result : Option ℕ) → (rd : ℕ) → (write : Option (ℕ × ℕ)) → Machine → Option Machine
next_machine (At address) result rd write m = Some (record { registers = with_result m.registers rd result; counter = address; words = with_write m.words write })
next_machine Service result rd write m = None
next_machine (PageFault address) result rd write m = None
next_machine (Fault kind address) result rd write m = None

-- the machine after a change, where rd is the destination register
abbrev pub change_machine : Change → (rd : ℕ) → Machine → Option Machine
change_machine change rd m = next_machine change.next change.result rd change.write m

-- the machine after an action
abbrev pub action_machine : Action → (rd : ℕ) → Machine → Option Machine
action_machine asks rd m = change_machine (action_change (mapped_cell (readable_words m.words)) (mapped_cell (writable_words m.words)) asks m.counter) rd m

-- the machine after an instruction, and None where none follows: a service, a breakpoint, or a fault, as by a word that is not mapped
abbrev pub machine_after : Operation → Machine → Option Machine
machine_after i m = action_machine (action_at i m.registers m.counter) i.rd m

-- code: which instruction is at an address
abbrev pub Code : Type 1
Code = ℕ → Operation → Type 0

-- one step: the instruction at the program counter, and the machine after it
pub record StepsTo (code : Code) (m next : Machine) : Type 0 where
  pub instruction : Operation
  pub there : code m.counter instruction
  pub effect : machine_after instruction m ≡ Some next

-- these instructions are at this address and the ones that follow
abbrev pub InstructionsAt : Code → (address : ℕ) → List Operation → Type 0
InstructionsAt code address [] = Unit {0}
InstructionsAt code address (i ∷ is) = code address i × InstructionsAt code (address + 4) is

-- ---- the machine of registers in a list and words in places

-- the word in a place, by what may be done with the place
abbrev pub stored_in : Access → (word : ℕ) → Stored
stored_in no_access word = unmapped
stored_in read_access word = read_only word
stored_in full_access word = writable word

-- what may be touched where this is shown
abbrev pub shown_word : Shown → View → Stored
shown_word (shown.Place place) view = stored_in (view.access place) (view.word_at place)
shown_word shown.Page view = unmapped
shown_word shown.Outside view = unmapped

-- the words that a view shows and allows, each under the address of its lowest byte
abbrev pub view_words : View → Mapped
view_words view address = if address % 4 == 0 then shown_word (view.shown address) view else unmapped

-- the machine of these registers and this program counter over a view
abbrev pub machine_of : View → (registers : List ℕ) → (counter : ℕ) → Machine
machine_of view registers counter = record { registers = slice_index registers; counter = counter; words = view_words view }

-- the view shows one place for the four bytes of a word, and shows it for no other word
pub record IsMap (view : View) : Type 0 where
  pub whole : (a : ℕ) → view.shown a ≡ view.shown (word_address a)
  pub apart : (a b place : ℕ) → view.shown a ≡ shown.Place place → view.shown b ≡ shown.Place place → word_address a ≡ word_address b
