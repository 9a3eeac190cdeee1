-- The effect of one instruction, in three stages: what it asks for (`Action.antt`), what it changes, and what is left after
-- it (RISC-V Unprivileged ISA, RV32I and M). What it changes is said once, of any registers and any memory.
use Rattle.std.specs.Prelude.{◌≡◌, ℕ, ◌+◌, ◌*◌, ◌/◌, ◌%◌, ◌^◌, Bool, ◌==◌, if◌then◌else◌, List, slice_index, slice_set, Option, Some, None, IsTrue}
use Rattle.std.specs.Int.{w32, cast_unsigned, to_le_bytes, from_le_bytes}
use Rattle.cm_isa.specs.Bits.{signed}
use Rattle.cm_isa.specs.Register.{put_result}
use Rattle.cm_isa.specs.View.{View, may_load, may_store, with_place}
use Rattle.cm_isa.specs.Operation.{Operation}
use Rattle.cm_isa.specs.Action.{Size, Byte, Half, Whole, Action, Sets, Passes, Goes, Links, Loads, Stores, Serves, Breaks, follow, action_at}
use Rattle.cm_isa.specs.declared.memory.Shown.{Shown}
use Rattle.cm_isa.specs.declared.memory.Shown.TheVariants as shown
use Rattle.cm_isa.specs.declared.execution.FaultKind.TheVariants as faults
use Rattle.cm_isa.specs.declared.execution.Next.{Next}
use Rattle.cm_isa.specs.declared.execution.Next.TheVariants.{At, Service, PageFault, Fault}

-- ---- bytes and halves of a word

-- how many bytes a load or a store moves
abbrev pub size_of : Size → ℕ
size_of Byte = 1
size_of Half = 2
size_of Whole = 4

-- an address is a multiple of the size
abbrev pub is_aligned : Size → (address : ℕ) → Bool
is_aligned size address = address % size_of size == 0

-- the number of k bits as a word, with its sign extended or by zeros
abbrev pub extend : (k : ℕ) → (sign : Bool) → ℕ → ℕ
extend k sign n = if sign then cast_unsigned w32 (signed k n) else n

-- what a load gives, where the whole word is `whole`; the lowest byte has the lowest address
abbrev pub load_value : Size → (sign : Bool) → (address whole : ℕ) → ℕ
load_value Byte sign address whole = extend 8 sign (whole / 2 ^ (8 * (address % 4)) % 2 ^ 8)
load_value Half sign address whole = extend 16 sign (whole / 2 ^ (8 * (address % 4)) % 2 ^ 16)
load_value Whole sign address whole = whole

-- the word that a store leaves, where `whole` was there and the register has `value`
abbrev pub stored_word : Size → (address whole value : ℕ) → ℕ
stored_word Byte address whole value = from_le_bytes w32 (slice_set (to_le_bytes w32 whole) (address % 4) (value % 256))
stored_word Half address whole value = from_le_bytes w32 (slice_set (slice_set (to_le_bytes w32 whole) (address % 4) (value % 256)) (address % 4 + 1) (value / 256 % 256))
stored_word Whole address whole value = value

-- ---- what one instruction changes

-- what a memory has at an address: a word, with the place that it is in; a page that is not mapped; or nothing
pub data Cell : Type 0 where
  word_in : (place word : ℕ) → Cell
  no_page : Cell
  nothing : Cell

-- the word that rd takes, if any; what comes next; and the place and the word that is put there, if any
pub record Change : Type 0 where
  pub result : Option ℕ
  pub next : Next
  pub write : Option (ℕ × ℕ)

-- rd takes the word, if there is one, and the instruction at the address is next
abbrev pub goes_on : (result : Option ℕ) → (address : ℕ) → Change
goes_on result address = record { result = result; next = At address; write = None }

-- nothing changes, and this comes next
abbrev pub stops : Next → Change
stops next = record { result = None; next = next; write = None }

-- a load of what the memory has at the address
abbrev pub load_change : Cell → Size → (sign : Bool) → (address pc : ℕ) → Change
load_change (word_in place word) size sign address pc = goes_on (Some (load_value size sign address word)) (follow pc)
load_change no_page size sign address pc = stops (PageFault address)
load_change nothing size sign address pc = stops (Fault faults.Place address)

-- a store to what the memory has at the address
abbrev pub store_change : Cell → Size → (address value pc : ℕ) → Change
store_change (word_in place word) size address value pc =
    record { result = None; next = At (follow pc); write = Some (place, stored_word size address word value) }
store_change no_page size address value pc = stops (PageFault address)
store_change nothing size address value pc = stops (Fault faults.Place address)

-- what an action at pc changes, by what it may read at each address, and what it may write over
abbrev pub action_change : (memory stores : ℕ → Cell) → Action → (pc : ℕ) → Change
action_change memory stores (Sets value) pc = goes_on (Some value) (follow pc)
action_change memory stores Passes pc = goes_on None (follow pc)
action_change memory stores (Goes target) pc = if target % 4 == 0 then goes_on None target else stops (Fault faults.Jump target)
action_change memory stores (Links target) pc = if target % 4 == 0 then goes_on (Some (follow pc)) target else stops (Fault faults.Jump target)
action_change memory stores (Loads size sign address) pc =
    if is_aligned size address then load_change (memory address) size sign address pc else stops (Fault faults.Align address)
action_change memory stores (Stores size address value) pc =
    if is_aligned size address then store_change (stores address) size address value pc else stops (Fault faults.Align address)
action_change memory stores Serves pc = stops Service
action_change memory stores Breaks pc = stops (Fault faults.Break pc)

-- ---- what is left after one instruction, of registers in a list and words in places

-- the registers, what comes next, and the memory
pub record Outcome : Type 0 where
  pub registers : List ℕ
  pub next : Next
  pub memory : View

-- what an address has that shows this, where each place has this word
abbrev pub shown_cell : Shown → (word_at : ℕ → ℕ) → Cell
shown_cell (shown.Place place) word_at = word_in place (word_at place)
shown_cell shown.Page word_at = no_page
shown_cell shown.Outside word_at = nothing

-- what a view has at an address
abbrev pub cell_at : View → (address : ℕ) → Cell
cell_at view address = shown_cell (view.shown address) view.word_at

-- the view after a word is put in a place, if one is
abbrev pub put_write : View → Option (ℕ × ℕ) → View
put_write view (Some write) = with_place view write.0 write.1
put_write view None = view

-- what is left after a change, where rd is the destination register
abbrev pub change_outcome : View → List ℕ → (rd : ℕ) → Change → Outcome
change_outcome view rs rd change = record { registers = put_result rs rd change.result; next = change.next; memory = put_write view change.write }

-- what is left after an action
abbrev pub action_outcome : View → Action → (rd : ℕ) → List ℕ → (pc : ℕ) → Outcome
action_outcome view asks rd rs pc = change_outcome view rs rd (action_change (cell_at view) (cell_at view) asks pc)

-- what is left after the instruction at pc, at these registers and this memory
abbrev pub outcome : View → Operation → List ℕ → (pc : ℕ) → Outcome
outcome view i rs pc = action_outcome view (action_at i (slice_index rs) pc) i.rd rs pc

-- what comes next, the registers and the memory are those of the outcome
pub record HasOutcome (after : Outcome) (next : Next) (registers : List ℕ) (memory : View) : Type 0 where
  pub next_is : next ≡ after.next
  pub registers_are : registers ≡ after.registers
  pub memory_is : memory ≡ after.memory

-- no instruction follows at once
abbrev pub IsStop : Next → Type 0
IsStop (At address) = ⊥
IsStop Service = Unit {0}
IsStop (PageFault address) = Unit {0}
IsStop (Fault kind address) = Unit {0}

-- ---- which words an instruction may touch

-- where the action loads from a place this place may be read, and where it stores to one it may be written
abbrev pub MayAccess : View → Action → Type 0
MayAccess view (Loads size sign address) = IsTrue (is_aligned size address) → (place : ℕ) → view.shown address ≡ shown.Place place → IsTrue (may_load (view.access place))
MayAccess view (Stores size address value) = IsTrue (is_aligned size address) → (place : ℕ) → view.shown address ≡ shown.Place place → IsTrue (may_store (view.access place))
MayAccess view _ = Unit {0}
