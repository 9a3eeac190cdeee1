-- An instruction as its fields.
use Rattle.std.specs.Prelude.{ℕ, ℤ, pos}
use Rattle.cm_isa.specs.declared.kind.Kind.{Kind}
use Rattle.cm_isa.specs.declared.kind.Kind.TheVariants as kinds

-- a kind, the destination register, the two source registers, and the immediate
pub record Operation : Type 0 where
  pub kind : Kind
  pub rd : ℕ
  pub rs1 : ℕ
  pub rs2 : ℕ
  pub imm : ℤ

-- the instruction with these fields
abbrev pub operation : Kind → (rd rs1 rs2 : ℕ) → (imm : ℤ) → Operation
operation k d r q z = record { kind = k; rd = d; rs1 = r; rs2 = q; imm = z }

-- the environment call, which asks for a service
abbrev pub ecall : Operation
ecall = operation kinds.Ecall 0 0 0 (pos 0)
