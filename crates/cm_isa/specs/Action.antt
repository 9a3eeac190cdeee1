-- What one instruction asks for, from its operands: the first stage of its effect (RISC-V Unprivileged ISA, RV32I and M).
use Rattle.std.specs.Prelude.{ℕ, ◌+◌, ◌-◌, ◌%◌, ◌^◌, ℤ, Bool, true, false, not, ◌==◌, nat_lt, int_lt, if◌then◌else◌}
use Rattle.std.specs.Int.{w32, cast_unsigned}
use Rattle.cm_isa.specs.Alu.{int, offset, compute}
use Rattle.cm_isa.specs.Operation.{Operation}
use Rattle.cm_isa.specs.declared.kind.Kind.{Kind}
use Rattle.cm_isa.specs.declared.kind.Kind.TheVariants as kinds
pub use Rattle.cm_isa.specs.declared.execution.Size.{Size}
pub use Rattle.cm_isa.specs.declared.execution.Size.TheVariants.{Byte, Half, Whole}
pub use Rattle.cm_isa.specs.declared.execution.Action.{Action}
pub use Rattle.cm_isa.specs.declared.execution.Action.TheVariants.{Sets, Passes, Goes, Links, Loads, Stores, Serves, Breaks}

-- the address of the next instruction
abbrev pub follow : ℕ → ℕ
follow pc = (pc + 4) % 2 ^ 32

-- a branch: to the target where the test holds
abbrev pub branch : Bool → (target : ℕ) → Action
branch test target = if test then Goes target else Passes

-- the word without bit 0
abbrev pub without_bit_0 : ℕ → ℕ
without_bit_0 target = target - target % 2

-- the action of an instruction at pc, where its source registers have these words
abbrev pub kind_action : Kind → (imm : ℤ) → (pc first second : ℕ) → Action
kind_action kinds.Lui imm pc a b = Sets (cast_unsigned w32 imm)
kind_action kinds.Auipc imm pc a b = Sets (offset pc imm)
kind_action kinds.Jal imm pc a b = Links (offset pc imm)
kind_action kinds.Jalr imm pc a b = Links (without_bit_0 (offset a imm))
kind_action kinds.Beq imm pc a b = branch (a == b) (offset pc imm)
kind_action kinds.Bne imm pc a b = branch (not (a == b)) (offset pc imm)
kind_action kinds.Blt imm pc a b = branch (int_lt (int a) (int b)) (offset pc imm)
kind_action kinds.Bge imm pc a b = branch (not (int_lt (int a) (int b))) (offset pc imm)
kind_action kinds.Bltu imm pc a b = branch (nat_lt a b) (offset pc imm)
kind_action kinds.Bgeu imm pc a b = branch (not (nat_lt a b)) (offset pc imm)
kind_action kinds.Lb imm pc a b = Loads Byte true (offset a imm)
kind_action kinds.Lh imm pc a b = Loads Half true (offset a imm)
kind_action kinds.Lw imm pc a b = Loads Whole true (offset a imm)
kind_action kinds.Lbu imm pc a b = Loads Byte false (offset a imm)
kind_action kinds.Lhu imm pc a b = Loads Half false (offset a imm)
kind_action kinds.Sb imm pc a b = Stores Byte (offset a imm) b
kind_action kinds.Sh imm pc a b = Stores Half (offset a imm) b
kind_action kinds.Sw imm pc a b = Stores Whole (offset a imm) b
kind_action kinds.Addi imm pc a b = Sets (compute kinds.Addi a (cast_unsigned w32 imm))
kind_action kinds.Slti imm pc a b = Sets (compute kinds.Slti a (cast_unsigned w32 imm))
kind_action kinds.Sltiu imm pc a b = Sets (compute kinds.Sltiu a (cast_unsigned w32 imm))
kind_action kinds.Xori imm pc a b = Sets (compute kinds.Xori a (cast_unsigned w32 imm))
kind_action kinds.Ori imm pc a b = Sets (compute kinds.Ori a (cast_unsigned w32 imm))
kind_action kinds.Andi imm pc a b = Sets (compute kinds.Andi a (cast_unsigned w32 imm))
kind_action kinds.Slli imm pc a b = Sets (compute kinds.Slli a (cast_unsigned w32 imm))
kind_action kinds.Srli imm pc a b = Sets (compute kinds.Srli a (cast_unsigned w32 imm))
kind_action kinds.Srai imm pc a b = Sets (compute kinds.Srai a (cast_unsigned w32 imm))
kind_action kinds.Fence imm pc a b = Passes
kind_action kinds.Ecall imm pc a b = Serves
kind_action kinds.Ebreak imm pc a b = Breaks
-- a kind that computes from two registers
kind_action kind imm pc a b = Sets (compute kind a b)

-- the action of an instruction at pc, where rs1 and rs2 have the words `first` and `second`
abbrev pub action : Operation → (pc first second : ℕ) → Action
action i pc first second = kind_action i.kind i.imm pc first second

-- the action of an instruction at pc, at these registers
abbrev pub action_at : Operation → (registers : ℕ → ℕ) → (pc : ℕ) → Action
action_at i registers pc = action i pc (registers i.rs1) (registers i.rs2)
