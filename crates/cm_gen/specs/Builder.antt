-- What a builder of code holds, and the code that it is.
use Rattle.std.specs.Prelude.{ℕ, suc, ◌+◌, ◌*◌, ◌≤◌, ◌<◌, pos, List, [], ◌∷◌, map, reverse}
use Rattle.cm_isa.specs.Bits.{minus}
use Rattle.cm_isa.specs.declared.convention.TheConstants as reg
use Rattle.cm_syntax.specs.declared.stmt.Slot.{Slot}
use Rattle.cm_syntax.specs.Frame.{slot_words}
use Rattle.cm_gen.specs.declared.builder.Word.{Word}
use Rattle.cm_gen.specs.declared.builder.Word.TheVariants as word
use Rattle.cm_gen.specs.Assembler.{jal}
use Rattle.cm_gen.specs.Part.{Part, plain, call}

-- a jump back over so many words
abbrev pub back : (words : ℕ) → Part
back n = plain (jal reg.ZERO (minus (4 * n)))

-- the part that a word is
abbrev pub seen : Word → Part
seen (word.Plain i) = plain i
seen (word.Call f) = call f
seen (word.Skip n) = plain (jal reg.ZERO (pos (4 * suc n)))
seen (word.Back n) = back n

-- over how many words it jumps
abbrev pub reach : Word → ℕ
reach (word.Plain i) = 0
reach (word.Call f) = 0
reach (word.Skip n) = n
reach (word.Back n) = n

-- none jumps over more than so many words
abbrev pub AreWithin : (count : ℕ) → List Word → Type 0
AreWithin count [] = Unit {0}
AreWithin count (w ∷ more) = (reach w ≤ count) × AreWithin count more

-- the code, whose last word comes first
abbrev pub code_in : List Word → List Part
code_in words = map seen (reverse words)

-- a call is of a function whose index is below a limit
abbrev pub IsCallWithin : (limit : ℕ) → Part → Type 0
IsCallWithin limit (plain i) = Unit {0}
IsCallWithin limit (call f) = f < limit

-- all calls are
abbrev pub AreCallsWithin : (limit : ℕ) → List Part → Type 0
AreCallsWithin limit [] = Unit {0}
AreCallsWithin limit (first ∷ more) = IsCallWithin limit first × AreCallsWithin limit more

-- the words of slots up to each one, where so many stand before them
abbrev pub ends_of : (before : ℕ) → List Slot → List ℕ
ends_of before [] = []
ends_of before (first ∷ more) = (before + slot_words first) ∷ ends_of (before + slot_words first) more
