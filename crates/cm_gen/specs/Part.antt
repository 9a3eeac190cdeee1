-- Code in parts. Each part is one word, and only a call tells where it stands, since it jumps to the table of functions.
use Rattle.std.specs.Prelude.{ℕ, ◌+◌, ◌*◌, pos, ◌-ℤ◌, List, [], ◌∷◌}
use Rattle.cm_isa.specs.Operation.{Operation}
use Rattle.cm_isa.specs.declared.convention.TheConstants as reg
use Rattle.cm_gen.specs.declared.form.Part as parts
use Rattle.cm_gen.specs.declared.form.Part.TheVariants as part
use Rattle.cm_gen.specs.Assembler.{jal}

-- a part of the code
abbrev pub Part : Type 0
Part = parts.Part

-- an instruction as it stands
pattern abbrev pub plain : Operation → Part
plain i = part.Plain i

-- a call of the function with this index
pattern abbrev pub call : (f : ℕ) → Part
call f = part.Call f

-- instructions as they stand
abbrev pub straight : List Operation → List Part
straight [] = []
straight (i ∷ is) = plain i ∷ straight is

-- the address of a function's word in the table
abbrev pub table_word : (f : ℕ) → ℕ
table_word f = 8 + 4 * f

-- the instruction that a part is at an address
abbrev pub placed : (address : ℕ) → Part → Operation
placed address (plain i) = i
placed address (call f) = jal reg.RA (pos (table_word f) -ℤ pos address)

-- the instructions of parts that stand one after another from an address on
abbrev pub laid : (address : ℕ) → List Part → List Operation
laid address [] = []
laid address (first ∷ more) = placed address first ∷ laid (address + 4) more
