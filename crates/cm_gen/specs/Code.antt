-- The patterns that the code of statements and functions is made of. The registers have the names of
-- `cm_isa/src/convention.rt`.
use Rattle.std.specs.Prelude.{ℕ, ◌+◌, ◌*◌, ℤ, pos, ◌+ℤ◌, ◌-ℤ◌, int_le, Bool, ◌&&◌, if◌then◌else◌, List, [], ◌∷◌, ◌++◌}
use Rattle.std.specs.Int.{int_rem_euclid}
use Rattle.cm_isa.specs.Bits.{minus}
use Rattle.cm_isa.specs.Operation.{Operation, ecall}
use Rattle.cm_isa.specs.declared.convention.TheConstants as reg
use Rattle.cm_syntax.specs.Word.{wrap}
use Rattle.cm_gen.specs.Assembler.{lui, addi, add, sub, lw, sw, jalr, bne, bgeu}

-- ---- numbers in instructions

-- a number that fits an immediate of 12 bits
abbrev pub is_near : ℤ → Bool
is_near v = int_le (minus 2048) v && int_le v (pos 2047)

-- the low 12 bits of a number, as a signed number
abbrev pub low_part : ℤ → ℤ
low_part v = int_rem_euclid (v +ℤ pos 2048) (pos 4096) -ℤ pos 2048

-- what is left of the number above them, as a word whose low 12 bits are 0
abbrev pub high_part : ℤ → ℤ
high_part v = wrap (v -ℤ low_part v)

-- ---- patterns

-- the register takes a number
abbrev pub load_number : (r : ℕ) → (n : ℤ) → List Operation
load_number r n = if is_near n then addi r reg.ZERO n ∷ [] else lui r (high_part n) ∷ addi r r (low_part n) ∷ []

-- the register takes the word at an offset from the frame pointer
abbrev pub load_slot : (r : ℕ) → (offset : ℤ) → List Operation
load_slot r o = if is_near o then lw r reg.FP o ∷ [] else lui r (high_part o) ∷ add r r reg.FP ∷ lw r r (low_part o) ∷ []

-- the word at an offset from the frame pointer becomes the register's
abbrev pub store_slot : (r : ℕ) → (offset : ℤ) → List Operation
store_slot r o = if is_near o then sw r reg.FP o ∷ [] else lui reg.HELP (high_part o) ∷ add reg.HELP reg.HELP reg.FP ∷ sw r reg.HELP (low_part o) ∷ []

-- a call of the environment, by the number of the service
abbrev pub service : (number : ℤ) → List Operation
service n = addi reg.SERVICE reg.ZERO n ∷ ecall ∷ []

-- one tick is taken; where none is left, service 6 ends the run as spent
abbrev pub tick : List Operation
tick = bne reg.TICKS reg.ZERO (pos 12) ∷ (service (pos 6) ++ addi reg.TICKS reg.TICKS (minus 1) ∷ [])

-- ---- temporaries

-- the offset of temporary j in a frame whose slots have so many words
abbrev pub temporary : (slots j : ℕ) → ℤ
temporary slots j = minus (4 * (3 + slots + j))

-- ---- functions

-- so many bytes are taken of the account; where they aren't left, service 9 ends the run with the trap `stack`
abbrev pub take_account : (q : ℕ) → List Operation
take_account q = load_number reg.HELP (pos q) ++ (bgeu reg.ACCOUNT reg.HELP (pos 12) ∷ (service (pos 9) ++ sub reg.ACCOUNT reg.ACCOUNT reg.HELP ∷ []))

-- a frame of so many bytes below the stack pointer, with the return address and the caller's frame pointer saved
abbrev pub make_frame : (b : ℕ) → List Operation
make_frame b = load_number reg.HELP (pos b) ++ (sub reg.SP reg.SP reg.HELP ∷ sw reg.ZERO reg.SP (pos 0) ∷ add reg.HELP reg.SP reg.HELP ∷ sw reg.RA reg.HELP (minus 4) ∷ sw reg.FP reg.HELP (minus 8) ∷ addi reg.FP reg.HELP (pos 0) ∷ [])

-- the code before a function's body: the tick, the account, the frame; b is the frame's bytes and q what a call takes of the account
abbrev pub entry : (b q : ℕ) → List Operation
entry b q = tick ++ (take_account q ++ make_frame b)

-- the code after a function's body
abbrev pub leave : (q : ℕ) → List Operation
leave q = load_number reg.HELP (pos q) ++ (add reg.ACCOUNT reg.ACCOUNT reg.HELP ∷ addi reg.RESULT reg.VALUE (pos 0) ∷ lw reg.RA reg.FP (minus 4) ∷ addi reg.SP reg.FP (pos 0) ∷ lw reg.FP reg.FP (minus 8) ∷ jalr reg.ZERO reg.RA (pos 0) ∷ [])
