-- Why no instruction is at an address of an image, whose words have the addresses that are multiples of 4, from 0 on.
use Rattle.std.specs.Prelude.{ℕ, ◌/◌, List, slice_index}
use Rattle.cm_isa.specs.Format.{Row}
use Rattle.cm_isa.specs.Operation.{Operation}
use Rattle.cm_isa.specs.Address.{IsCodeAddress}
use Rattle.cm_isa.specs.declared.execution.FaultKind.{FaultKind}
use Rattle.cm_isa.specs.declared.execution.FaultKind.TheVariants as faults

-- an address of the code whose word is no instruction's: it is in no row
abbrev pub IsStranger : (image : List ℕ) → (pc : ℕ) → Type 0
IsStranger image pc = IsCodeAddress image pc × ((i : Operation) → ¬ Row (slice_index image (pc / 4)) i)

-- why no instruction is at an address: it is none of the code, or its word is no instruction's
abbrev pub Lacks : (image : List ℕ) → (pc : ℕ) → FaultKind → Type 0
Lacks image pc faults.Jump = ¬ IsCodeAddress image pc
Lacks image pc faults.Word = IsStranger image pc
Lacks image pc faults.Align = ⊥
Lacks image pc faults.Place = ⊥
Lacks image pc faults.Break = ⊥
