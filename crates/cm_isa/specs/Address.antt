-- Which instruction is at which address of the code. The words of an image have the addresses that are multiples of 4,
-- from 0 on.
use Rattle.std.specs.Prelude.{◌≡◌, ℕ, ◌/◌, ◌%◌, ◌<◌, List, [], ◌∷◌, length, slice_index}
use Rattle.cm_isa.specs.Format.{Row}
use Rattle.cm_isa.specs.Operation.{Operation}

-- the address of a word of the image: a multiple of 4, and inside
abbrev pub IsCodeAddress : (image : List ℕ) → (address : ℕ) → Type 0
IsCodeAddress image address = (address % 4 ≡ 0) × (address / 4 < length image)

-- the instruction at an address: the one in whose row the word there is
abbrev pub InstructionAt : (image : List ℕ) → (address : ℕ) → Operation → Type 0
InstructionAt image address i = (address % 4 ≡ 0) × (address / 4 < length image) × Row (slice_index image (address / 4)) i

-- the words are those of the instructions, one for each
abbrev pub AreWordsOf : List ℕ → List Operation → Type 0
AreWordsOf [] [] = Unit {0}
AreWordsOf (w ∷ ws) (i ∷ is) = Row w i × AreWordsOf ws is
AreWordsOf _ _ = ⊥
