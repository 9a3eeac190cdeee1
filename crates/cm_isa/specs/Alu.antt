-- What an instruction computes from two words (RISC-V Unprivileged ISA, RV32I 2.4 and M). A word is a number below 2 ^ 32.
use Rattle.std.specs.Prelude.{ℕ, ◌-◌, ◌*◌, ◌/◌, ◌%◌, ◌^◌, ℤ, pos, ◌+ℤ◌, ◌-ℤ◌, ◌*ℤ◌, Bool, ◌==◌, nat_lt, if◌then◌else◌, bit_and, bit_or, bit_xor, unsigned_abs, int_lt, int_div, int_rem}
use Rattle.std.specs.Int.{w32, cast_signed, int_rem_euclid, int_shr}
use Rattle.cm_isa.specs.declared.kind.Kind.{Kind}
use Rattle.cm_isa.specs.declared.kind.Kind.TheVariants as kinds

-- the signed number that a word stands for
abbrev pub int : ℕ → ℤ
int w = cast_signed w32 w

-- the low 32 bits of a number, as a word
abbrev pub word : ℤ → ℕ
word z = unsigned_abs (int_rem_euclid z (pos (2 ^ 32)))

-- the 32 bits above those
abbrev pub high : ℤ → ℕ
high z = word (int_shr z 32)

-- 1 where the test holds, else 0
abbrev pub bit : Bool → ℕ
bit b = if b then 1 else 0

-- the word whose bits are all 1
abbrev pub all_ones : ℕ
all_ones = 2 ^ 32 - 1

-- an address and an offset, modulo 2 ^ 32
abbrev pub offset : ℕ → ℤ → ℕ
offset base imm = word (pos base +ℤ imm)

-- what the kinds that compute give; the second word is that of rs2 or of the immediate
abbrev pub compute : Kind → ℕ → ℕ → ℕ
compute kinds.Addi a b = word (int a +ℤ int b)
compute kinds.Slti a b = bit (int_lt (int a) (int b))
compute kinds.Sltiu a b = bit (nat_lt a b)
compute kinds.Xori a b = bit_xor a b
compute kinds.Ori a b = bit_or a b
compute kinds.Andi a b = bit_and a b
compute kinds.Slli a b = a * 2 ^ (b % 32) % 2 ^ 32
compute kinds.Srli a b = a / 2 ^ (b % 32)
compute kinds.Srai a b = word (int_shr (int a) (b % 32))
compute kinds.Add a b = word (int a +ℤ int b)
compute kinds.Sub a b = word (int a -ℤ int b)
compute kinds.Sll a b = a * 2 ^ (b % 32) % 2 ^ 32
compute kinds.Slt a b = bit (int_lt (int a) (int b))
compute kinds.Sltu a b = bit (nat_lt a b)
compute kinds.Xor a b = bit_xor a b
compute kinds.Srl a b = a / 2 ^ (b % 32)
compute kinds.Sra a b = word (int_shr (int a) (b % 32))
compute kinds.Or a b = bit_or a b
compute kinds.And a b = bit_and a b
compute kinds.Mul a b = word (int a *ℤ int b)
compute kinds.Mulh a b = high (int a *ℤ int b)
compute kinds.Mulhsu a b = high (int a *ℤ pos b)
compute kinds.Mulhu a b = high (pos a *ℤ pos b)
compute kinds.Div a b = if b == 0 then all_ones else word (int_div (int a) (int b))
compute kinds.Divu a b = if b == 0 then all_ones else a / b
compute kinds.Rem a b = if b == 0 then a else word (int_rem (int a) (int b))
compute kinds.Remu a b = if b == 0 then a else a % b
-- the others compute nothing
compute _ a b = 0
