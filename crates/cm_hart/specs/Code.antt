-- When instructions are those of an image's words.
use Rattle.std.specs.Prelude.{ℕ, Option, None, Some, List, [], ◌∷◌}
use Rattle.cm_isa.specs.Format.{Row}
use Rattle.cm_isa.specs.Operation.{Operation}

-- what a word decodes to: the instruction in whose row it is, or None where it is in no row
abbrev pub DecodesTo : (word : ℕ) → Option Operation → Type 0
DecodesTo word (Some i) = Row word i
DecodesTo word None = (i : Operation) → ¬ Row word i

-- each word decodes to the entry at the same index, and there is one entry a word
abbrev pub AreDecoded : (words : List ℕ) → List (Option Operation) → Type 0
AreDecoded [] [] = Unit {0}
AreDecoded (w ∷ ws) (d ∷ ds) = DecodesTo w d × AreDecoded ws ds
AreDecoded _ _ = ⊥
