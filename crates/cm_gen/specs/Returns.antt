-- The addresses at which calls go on when they come back, and what an instruction does to them.
use Rattle.std.specs.Prelude.{◌≡◌, ℕ, zero, suc, ◌+◌, ◌==◌, if◌then◌else◌, List, ◌∷◌}
use Rattle.cm_isa.specs.declared.kind.Kind.{Kind}
use Rattle.cm_isa.specs.declared.kind.Kind.TheVariants as kinds
use Rattle.cm_isa.specs.declared.convention.TheConstants as reg
use Rattle.cm_isa.specs.Operation.{Operation}
use Rattle.cm_isa.specs.Machine.{Machine, Code, StepsTo}

-- what an instruction does to the returns: nothing; it calls, and one more comes; or it goes back, and the last one goes
pub data Link : Type 0 where
  plain : Link
  call : Link
  back : Link

-- A jump that puts the address behind it into RA calls; a jump to RA that doesn't goes back (the return-address stack of the
-- RISC-V Unprivileged ISA, 'Unconditional Jumps').
abbrev pub link_in : Kind → (rd rs1 : ℕ) → Link
link_in kinds.Jal rd rs1 = if rd == reg.RA then call else plain
link_in kinds.Jalr rd rs1 = if rd == reg.RA then call else (if rs1 == reg.RA then back else plain)
link_in _ rd rs1 = plain

abbrev pub link_of : Operation → Link
link_of i = link_in i.kind i.rd i.rs1

-- What becomes of the returns between a machine and the next, the last one first: a call adds the address behind its
-- instruction; going back leads to the last one, and takes it away.
abbrev pub Links : Link → (m next : Machine) → (returns later : List ℕ) → Type 0
Links plain m next returns later = later ≡ returns
Links call m next returns later = later ≡ (m.counter + 4) ∷ returns
Links back m next returns later = returns ≡ next.counter ∷ later

-- so many instructions, one after another, none of which calls or goes back
abbrev pub GoesTo : Code → (n : ℕ) → (m last : Machine) → Type 0
GoesTo code zero m last = m ≡ last
GoesTo code (suc n) m last = (next : Machine) × (s : StepsTo code m next) × (link_of s.instruction ≡ plain) × GoesTo code n next last
