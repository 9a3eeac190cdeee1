-- The instructions of the code patterns, by the names of the assembler.
use Rattle.std.specs.Prelude.{ℕ, ℤ, pos}
use Rattle.cm_isa.specs.Operation.{Operation}
use Rattle.cm_isa.specs.declared.kind.Kind.TheVariants as kinds

abbrev pub lui : (rd : ℕ) → (imm : ℤ) → Operation
lui rd imm = record { kind = kinds.Lui; rd = rd; rs1 = 0; rs2 = 0; imm = imm }

abbrev pub addi : (rd rs1 : ℕ) → (imm : ℤ) → Operation
addi rd rs1 imm = record { kind = kinds.Addi; rd = rd; rs1 = rs1; rs2 = 0; imm = imm }

abbrev pub add : (rd rs1 rs2 : ℕ) → Operation
add rd rs1 rs2 = record { kind = kinds.Add; rd = rd; rs1 = rs1; rs2 = rs2; imm = pos 0 }

abbrev pub sub : (rd rs1 rs2 : ℕ) → Operation
sub rd rs1 rs2 = record { kind = kinds.Sub; rd = rd; rs1 = rs1; rs2 = rs2; imm = pos 0 }

abbrev pub mul : (rd rs1 rs2 : ℕ) → Operation
mul rd rs1 rs2 = record { kind = kinds.Mul; rd = rd; rs1 = rs1; rs2 = rs2; imm = pos 0 }

-- a load of the word at the base register's address and an offset
abbrev pub lw : (rd base : ℕ) → (offset : ℤ) → Operation
lw rd base offset = record { kind = kinds.Lw; rd = rd; rs1 = base; rs2 = 0; imm = offset }

-- a store of a register's word there
abbrev pub sw : (source base : ℕ) → (offset : ℤ) → Operation
sw source base offset = record { kind = kinds.Sw; rd = 0; rs1 = base; rs2 = source; imm = offset }

-- jumps and branches, by a distance in bytes
abbrev pub jal : (rd : ℕ) → (distance : ℤ) → Operation
jal rd distance = record { kind = kinds.Jal; rd = rd; rs1 = 0; rs2 = 0; imm = distance }

abbrev pub jalr : (rd base : ℕ) → (offset : ℤ) → Operation
jalr rd base offset = record { kind = kinds.Jalr; rd = rd; rs1 = base; rs2 = 0; imm = offset }

abbrev pub bne : (rs1 rs2 : ℕ) → (distance : ℤ) → Operation
bne rs1 rs2 distance = record { kind = kinds.Bne; rd = 0; rs1 = rs1; rs2 = rs2; imm = distance }

abbrev pub bgeu : (rs1 rs2 : ℕ) → (distance : ℤ) → Operation
bgeu rs1 rs2 distance = record { kind = kinds.Bgeu; rd = 0; rs1 = rs1; rs2 = rs2; imm = distance }

abbrev pub beq : (rs1 rs2 : ℕ) → (distance : ℤ) → Operation
beq rs1 rs2 distance = record { kind = kinds.Beq; rd = 0; rs1 = rs1; rs2 = rs2; imm = distance }

abbrev pub bltu : (rs1 rs2 : ℕ) → (distance : ℤ) → Operation
bltu rs1 rs2 distance = record { kind = kinds.Bltu; rd = 0; rs1 = rs1; rs2 = rs2; imm = distance }

-- quotient and remainder
abbrev pub div : (rd rs1 rs2 : ℕ) → Operation
div rd rs1 rs2 = record { kind = kinds.Div; rd = rd; rs1 = rs1; rs2 = rs2; imm = pos 0 }

abbrev pub rem : (rd rs1 rs2 : ℕ) → Operation
rem rd rs1 rs2 = record { kind = kinds.Rem; rd = rd; rs1 = rs1; rs2 = rs2; imm = pos 0 }

-- bit by bit
abbrev pub and : (rd rs1 rs2 : ℕ) → Operation
and rd rs1 rs2 = record { kind = kinds.And; rd = rd; rs1 = rs1; rs2 = rs2; imm = pos 0 }

abbrev pub or : (rd rs1 rs2 : ℕ) → Operation
or rd rs1 rs2 = record { kind = kinds.Or; rd = rd; rs1 = rs1; rs2 = rs2; imm = pos 0 }

abbrev pub xor : (rd rs1 rs2 : ℕ) → Operation
xor rd rs1 rs2 = record { kind = kinds.Xor; rd = rd; rs1 = rs1; rs2 = rs2; imm = pos 0 }

abbrev pub xori : (rd rs1 : ℕ) → (imm : ℤ) → Operation
xori rd rs1 imm = record { kind = kinds.Xori; rd = rd; rs1 = rs1; rs2 = 0; imm = imm }

-- shifts: to the left, and to the right with copies of the sign; and to the left by a number
abbrev pub sll : (rd rs1 rs2 : ℕ) → Operation
sll rd rs1 rs2 = record { kind = kinds.Sll; rd = rd; rs1 = rs1; rs2 = rs2; imm = pos 0 }

abbrev pub sra : (rd rs1 rs2 : ℕ) → Operation
sra rd rs1 rs2 = record { kind = kinds.Sra; rd = rd; rs1 = rs1; rs2 = rs2; imm = pos 0 }

abbrev pub slli : (rd rs1 : ℕ) → (amount : ℤ) → Operation
slli rd rs1 amount = record { kind = kinds.Slli; rd = rd; rs1 = rs1; rs2 = 0; imm = amount }

-- whether the first is less: as signed numbers, as unsigned numbers, and than an immediate as unsigned numbers
abbrev pub slt : (rd rs1 rs2 : ℕ) → Operation
slt rd rs1 rs2 = record { kind = kinds.Slt; rd = rd; rs1 = rs1; rs2 = rs2; imm = pos 0 }

abbrev pub sltu : (rd rs1 rs2 : ℕ) → Operation
sltu rd rs1 rs2 = record { kind = kinds.Sltu; rd = rd; rs1 = rs1; rs2 = rs2; imm = pos 0 }

abbrev pub sltiu : (rd rs1 : ℕ) → (imm : ℤ) → Operation
sltiu rd rs1 imm = record { kind = kinds.Sltiu; rd = rd; rs1 = rs1; rs2 = 0; imm = imm }
