-- What it means that the answer of `read` is the text's.
use Rattle.std.specs.Prelude.{◌≡◌, ◌⊎◌, ℕ, ⊤, List, Result, Err}
use Rattle.cm_syntax.specs.declared.stmt.Tree.{Tree}
use Rattle.cm_syntax.specs.Refusal.{Refusal, IsAnswer}
use Rattle.cm_reader.specs.declared.refusal.ReadRefusal.{ReadRefusal}
use Rattle.cm_reader.specs.declared.refusal.ReadRefusal.TheVariants as refusal

-- the refusal is the text's answer, or there was no memory
abbrev pub IsRefusalOf : (bytes : List ℕ) → ReadRefusal → Type 0
IsRefusalOf bytes (refusal.Syntax at) = IsAnswer bytes Refusal.syntax_ at
IsRefusalOf bytes (refusal.Size at) = IsAnswer bytes Refusal.size at
IsRefusalOf bytes refusal.Memory = ⊤

-- the refusal of the language as the reader says it
abbrev pub refusal_of : Refusal → (at : ℕ) → ReadRefusal
refusal_of Refusal.syntax_ at = refusal.Syntax at
refusal_of Refusal.size at = refusal.Size at

-- The answer is the wanted one, or there was no memory.
abbrev pub Gives : (answer wanted : Result Tree ReadRefusal) → Type 0
Gives answer wanted = (answer ≡ wanted) ⊎ (answer ≡ Err refusal.Memory)
