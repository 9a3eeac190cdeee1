-- The words of the instructions (RISC-V Unprivileged ISA, RV32I 2.2, 2.3 and the instruction listings of RV32I and RV32M).
use Rattle.std.specs.Prelude.{◌≡◌, ℕ, ◌+◌, ◌*◌, ◌^◌, ◌%◌, ◌<◌, ◌≤ℤ◌, ◌<ℤ◌, ℤ, pos, unsigned_abs}
use Rattle.cm_isa.specs.Bits.{bits, signed, IsSigned}
use Rattle.cm_isa.specs.Operation.{Operation}
use Rattle.cm_isa.specs.declared.kind.Kind.{Kind}
use Rattle.cm_isa.specs.declared.kind.Kind.TheVariants as kinds
use Rattle.cm_isa.specs.declared.kind.Format.{Format}
use Rattle.cm_isa.specs.declared.kind.Format.TheVariants.{R, Shift, I, S, B, U, J, Whole}

-- ---- the table

-- what the word of each kind fixes: funct7, funct3 and opcode, as far as its format has them
abbrev pub form_of : Kind → Format
form_of kinds.Lui = U 0b0110111
form_of kinds.Auipc = U 0b0010111
form_of kinds.Jal = J 0b1101111
form_of kinds.Jalr = I 0b000 0b1100111
form_of kinds.Beq = B 0b000 0b1100011
form_of kinds.Bne = B 0b001 0b1100011
form_of kinds.Blt = B 0b100 0b1100011
form_of kinds.Bge = B 0b101 0b1100011
form_of kinds.Bltu = B 0b110 0b1100011
form_of kinds.Bgeu = B 0b111 0b1100011
form_of kinds.Lb = I 0b000 0b0000011
form_of kinds.Lh = I 0b001 0b0000011
form_of kinds.Lw = I 0b010 0b0000011
form_of kinds.Lbu = I 0b100 0b0000011
form_of kinds.Lhu = I 0b101 0b0000011
form_of kinds.Sb = S 0b000 0b0100011
form_of kinds.Sh = S 0b001 0b0100011
form_of kinds.Sw = S 0b010 0b0100011
form_of kinds.Addi = I 0b000 0b0010011
form_of kinds.Slti = I 0b010 0b0010011
form_of kinds.Sltiu = I 0b011 0b0010011
form_of kinds.Xori = I 0b100 0b0010011
form_of kinds.Ori = I 0b110 0b0010011
form_of kinds.Andi = I 0b111 0b0010011
form_of kinds.Slli = Shift 0b0000000 0b001 0b0010011
form_of kinds.Srli = Shift 0b0000000 0b101 0b0010011
form_of kinds.Srai = Shift 0b0100000 0b101 0b0010011
form_of kinds.Add = R 0b0000000 0b000 0b0110011
form_of kinds.Sub = R 0b0100000 0b000 0b0110011
form_of kinds.Sll = R 0b0000000 0b001 0b0110011
form_of kinds.Slt = R 0b0000000 0b010 0b0110011
form_of kinds.Sltu = R 0b0000000 0b011 0b0110011
form_of kinds.Xor = R 0b0000000 0b100 0b0110011
form_of kinds.Srl = R 0b0000000 0b101 0b0110011
form_of kinds.Sra = R 0b0100000 0b101 0b0110011
form_of kinds.Or = R 0b0000000 0b110 0b0110011
form_of kinds.And = R 0b0000000 0b111 0b0110011
form_of kinds.Fence = I 0b000 0b0001111
form_of kinds.Ecall = Whole 0x00000073
form_of kinds.Ebreak = Whole 0x00100073
form_of kinds.Mul = R 0b0000001 0b000 0b0110011
form_of kinds.Mulh = R 0b0000001 0b001 0b0110011
form_of kinds.Mulhsu = R 0b0000001 0b010 0b0110011
form_of kinds.Mulhu = R 0b0000001 0b011 0b0110011
form_of kinds.Div = R 0b0000001 0b100 0b0110011
form_of kinds.Divu = R 0b0000001 0b101 0b0110011
form_of kinds.Rem = R 0b0000001 0b110 0b0110011
form_of kinds.Remu = R 0b0000001 0b111 0b0110011

-- each part fits its place in a word
abbrev pub IsFormat : Format → Type 0
IsFormat (R f7 f3 op) = (f7 < 2 ^ 7) × (f3 < 2 ^ 3) × (op < 2 ^ 7)
IsFormat (Shift f7 f3 op) = (f7 < 2 ^ 7) × (f3 < 2 ^ 3) × (op < 2 ^ 7)
IsFormat (I f3 op) = (f3 < 2 ^ 3) × (op < 2 ^ 7)
IsFormat (S f3 op) = (f3 < 2 ^ 3) × (op < 2 ^ 7)
IsFormat (B f3 op) = (f3 < 2 ^ 3) × (op < 2 ^ 7)
IsFormat (U op) = op < 2 ^ 7
IsFormat (J op) = op < 2 ^ 7
IsFormat (Whole word) = word < 2 ^ 32

-- ---- the fields of a word

-- the fields that choose the instruction
abbrev pub opcode : ℕ → ℕ
opcode word = bits 6 0 word

abbrev pub funct3 : ℕ → ℕ
funct3 word = bits 14 12 word

abbrev pub funct7 : ℕ → ℕ
funct7 word = bits 31 25 word

-- the fields that name registers
abbrev pub rd_field : ℕ → ℕ
rd_field word = bits 11 7 word

abbrev pub rs1_field : ℕ → ℕ
rs1_field word = bits 19 15 word

abbrev pub rs2_field : ℕ → ℕ
rs2_field word = bits 24 20 word

-- the immediates: their bits stand in the word in this order, from the highest bit of the immediate down
abbrev pub i_immediate : ℕ → ℤ
i_immediate word = signed 12 (bits 31 20 word)

abbrev pub s_immediate : ℕ → ℤ
s_immediate word = signed 12 (bits 31 25 word * 2 ^ 5 + bits 11 7 word)

abbrev pub b_immediate : ℕ → ℤ
b_immediate word = signed 13 (bits 31 31 word * 2 ^ 12 + bits 7 7 word * 2 ^ 11 + bits 30 25 word * 2 ^ 5 + bits 11 8 word * 2)

abbrev pub u_immediate : ℕ → ℤ
u_immediate word = signed 32 (bits 31 12 word * 2 ^ 12)

abbrev pub j_immediate : ℕ → ℤ
j_immediate word = signed 21 (bits 31 31 word * 2 ^ 20 + bits 19 12 word * 2 ^ 12 + bits 20 20 word * 2 ^ 11 + bits 30 21 word * 2)

-- ---- the rows

-- the word has what the format fixes
abbrev pub Matches : Format → ℕ → Type 0
Matches (R f7 f3 op) word = (opcode word ≡ op) × (funct3 word ≡ f3) × (funct7 word ≡ f7)
Matches (Shift f7 f3 op) word = (opcode word ≡ op) × (funct3 word ≡ f3) × (funct7 word ≡ f7)
Matches (I f3 op) word = (opcode word ≡ op) × (funct3 word ≡ f3)
Matches (S f3 op) word = (opcode word ≡ op) × (funct3 word ≡ f3)
Matches (B f3 op) word = (opcode word ≡ op) × (funct3 word ≡ f3)
Matches (U op) word = opcode word ≡ op
Matches (J op) word = opcode word ≡ op
Matches (Whole whole) word = word ≡ whole

-- the fields of a word of this format; those that the format doesn't have are 0
abbrev pub operation_at : Format → Kind → ℕ → Operation
operation_at (R f7 f3 op) k word = record { kind = k; rd = rd_field word; rs1 = rs1_field word; rs2 = rs2_field word; imm = pos 0 }
operation_at (Shift f7 f3 op) k word = record { kind = k; rd = rd_field word; rs1 = rs1_field word; rs2 = 0; imm = pos (rs2_field word) }
operation_at (I f3 op) k word = record { kind = k; rd = rd_field word; rs1 = rs1_field word; rs2 = 0; imm = i_immediate word }
operation_at (S f3 op) k word = record { kind = k; rd = 0; rs1 = rs1_field word; rs2 = rs2_field word; imm = s_immediate word }
operation_at (B f3 op) k word = record { kind = k; rd = 0; rs1 = rs1_field word; rs2 = rs2_field word; imm = b_immediate word }
operation_at (U op) k word = record { kind = k; rd = rd_field word; rs1 = 0; rs2 = 0; imm = u_immediate word }
operation_at (J op) k word = record { kind = k; rd = rd_field word; rs1 = 0; rs2 = 0; imm = j_immediate word }
operation_at (Whole whole) k word = record { kind = k; rd = 0; rs1 = 0; rs2 = 0; imm = pos 0 }

-- the word is in the row of the instruction's kind, and the instruction has its fields
pub record Row (word : ℕ) (i : Operation) : Type 0 where
  pub fixed : Matches (form_of i.kind) word
  pub fields : i ≡ operation_at (form_of i.kind) i.kind word

-- ---- which fields an instruction may have

-- the fields that the format uses fit it, and the others are 0
abbrev pub Fits : Format → Operation → Type 0
Fits (R f7 f3 op) i = (i.rd < 32) × (i.rs1 < 32) × (i.rs2 < 32) × (i.imm ≡ pos 0)
Fits (Shift f7 f3 op) i = (i.rd < 32) × (i.rs1 < 32) × (i.rs2 ≡ 0) × (pos 0 ≤ℤ i.imm) × (i.imm <ℤ pos 32)
Fits (I f3 op) i = (i.rd < 32) × (i.rs1 < 32) × (i.rs2 ≡ 0) × IsSigned 12 i.imm
Fits (S f3 op) i = (i.rd ≡ 0) × (i.rs1 < 32) × (i.rs2 < 32) × IsSigned 12 i.imm
Fits (B f3 op) i = (i.rd ≡ 0) × (i.rs1 < 32) × (i.rs2 < 32) × IsSigned 13 i.imm × (unsigned_abs i.imm % 2 ≡ 0)
Fits (U op) i = (i.rd < 32) × (i.rs1 ≡ 0) × (i.rs2 ≡ 0) × IsSigned 32 i.imm × (unsigned_abs i.imm % 2 ^ 12 ≡ 0)
Fits (J op) i = (i.rd < 32) × (i.rs1 ≡ 0) × (i.rs2 ≡ 0) × IsSigned 21 i.imm × (unsigned_abs i.imm % 2 ≡ 0)
Fits (Whole word) i = (i.rd ≡ 0) × (i.rs1 ≡ 0) × (i.rs2 ≡ 0) × (i.imm ≡ pos 0)

-- an instruction: each used field fits the format of its kind, and each unused one is 0
abbrev pub IsInstr : Operation → Type 0
IsInstr i = Fits (form_of i.kind) i
