-- Of the running function, and of the destination of a spawn.
use Rattle.std.specs.Prelude.{ℕ, None, Some, List, [], ◌∷◌, slice_get}
use Rattle.cm_syntax.specs.declared.stmt.Program.{Program}
use Rattle.cm_syntax.specs.Stack.{Destination}
use Rattle.cm_syntax.specs.Step.{scalar_slice}
use Rattle.cm_gen.specs.Standing.{Frame}
use Rattle.cm_gen.specs.FrameWord.{IsMarked, reference_address}

-- it is marked `cilk`
abbrev pub RunsCilk : Program → (calls : List ℕ) → Type 0
RunsCilk program [] = ⊥
RunsCilk program (f ∷ calls) = IsMarked (slice_get program.functions f)

-- the address of a destination, or 0
abbrev pub target_address : Program → (page : ℕ) → (calls : List ℕ) → List Frame → Destination → ℕ
target_address program page calls frames None = 0
target_address program page calls frames (Some x) = reference_address program page calls frames (scalar_slice x.depth x.slot)
