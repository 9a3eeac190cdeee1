-- Runs of a machine: steps of instructions, which nobody sees, and calls of the environment, each an `ecall` with its reply.
use Rattle.std.specs.Prelude.{◌≡◌, ℕ, zero, suc, List, [], ◌∷◌, Option, Some}
use Rattle.cm_isa.specs.Register.{with_result}
use Rattle.cm_isa.specs.Action.{follow}
use Rattle.cm_isa.specs.Operation.{ecall}
use Rattle.cm_isa.specs.Machine.{Stored, unmapped, writable, read_only, reads, Mapped, Machine, Code, StepsTo, machine_with}
use Rattle.cm_isa.specs.declared.convention.TheConstants as reg

-- a call of the environment: the number of the service, in x31, its arguments, in x5 and x6, and the word of the reply, if it has one
pub record Call : Type 0 where
  pub service : ℕ
  pub first : ℕ
  pub second : ℕ
  pub reply : Option ℕ

-- the call that a machine at an `ecall` makes, where this is the reply
abbrev pub call_of : Machine → (reply : Option ℕ) → Call
call_of m reply = record { service = m.registers reg.SERVICE; first = m.registers reg.VALUE; second = m.registers reg.LEFT; reply = reply }

-- the machine after the call: x5 takes the word of the reply, if there is one, and the instruction after the `ecall` is next
abbrev pub replied_machine : Machine → (reply : Option ℕ) → Machine
replied_machine m reply = machine_with m (with_result m.registers reg.VALUE reply) (follow m.counter)

-- what a step shows: nothing, or a call
pub data Label : Type 0 where
  silent : Label
  call : Call → Label

-- one step with this label
abbrev pub LabelledStep : Code → Label → (m next : Machine) → Type 0
LabelledStep code silent m next = StepsTo code m next
LabelledStep code (call c) m next = code m.counter ecall × (c ≡ call_of m c.reply) × (next ≡ replied_machine m c.reply)

-- steps with these labels, one after another
abbrev pub Runs : Code → List Label → (m last : Machine) → Type 0
Runs code [] m last = m ≡ last
Runs code (label ∷ labels) m last = (next : Machine) × LabelledStep code label m next × Runs code labels next last

-- the labels of n steps of instructions
abbrev pub silence : ℕ → List Label
silence zero = []
silence (suc n) = silent ∷ silence n

-- n steps of instructions, one after another
abbrev pub ComesTo : Code → (n : ℕ) → (m last : Machine) → Type 0
ComesTo code n m last = Runs code (silence n) m last

-- the replies of the calls among these labels
abbrev pub replies : List Label → List (Option ℕ)
replies [] = []
replies (silent ∷ labels) = replies labels
replies (call c ∷ labels) = c.reply ∷ replies labels

-- ---- further words

-- what is at an address beside further words: an own word, or else what the further ones have
abbrev pub word_or : Stored → Stored → Stored
word_or unmapped more = more
word_or (writable word) more = writable word
word_or (read_only word) more = more

-- the words beside further ones; where they may only be read it is as the further ones have it
abbrev pub with_more : Mapped → (more : Mapped) → Mapped
with_more words more address = word_or (words address) (more address)

-- the machine with further words beside its own
abbrev pub machine_with_more : Machine → (more : Mapped) → Machine
machine_with_more m more = record { registers = m.registers; counter = m.counter; words = with_more m.words more }

-- what may only be read is to be read among further words too
abbrev pub StaysReadable : (words more : Mapped) → Type 0
StaysReadable words more = (address word : ℕ) → words address ≡ read_only word → reads (more address) ≡ Some word

-- the larger map has every own word of the smaller one, and what the smaller one may only read is to be read in it
pub record Extends (small large : Mapped) : Type 0 where
  pub keeps_writable : (address word : ℕ) → small address ≡ writable word → large address ≡ writable word
  pub keeps_readable : (address word : ℕ) → small address ≡ read_only word → reads (large address) ≡ Some word
