-- What it means that the answer of `check` is the program's.
use Rattle.std.specs.Prelude.{◌≡◌, ◌⊎◌, ⊤, Result, Err, Option, None, Some}
use Rattle.cm_syntax.specs.declared.stmt.Program.{Program}
use Rattle.cm_syntax.specs.Lending.{IsLentAnswer, IsSameAnswer, IsAccepted}
use Rattle.cm_lend.specs.declared.breach.Breach.{Breach}
use Rattle.cm_lend.specs.declared.breach.Breach.TheVariants as breach
use Rattle.cm_lend.specs.declared.refusal.LendRefusal.{LendRefusal}
use Rattle.cm_lend.specs.declared.refusal.LendRefusal.TheVariants as refusal

-- the program is accepted, or this breach is answered
abbrev pub IsAnswer : Program → Option Breach → Type 0
IsAnswer program None = IsAccepted program
IsAnswer program (Some (breach.Lent at spawn)) = IsLentAnswer program at spawn
IsAnswer program (Some (breach.Same at)) = IsSameAnswer program at

-- the refusal is the program's answer, or there was no memory
abbrev pub IsRefusalOf : Program → LendRefusal → Type 0
IsRefusalOf program (refusal.Lent at spawn) = IsLentAnswer program at spawn
IsRefusalOf program (refusal.Same at) = IsSameAnswer program at
IsRefusalOf program refusal.Memory = ⊤

-- The answer is the wanted one, or there was no memory.
abbrev pub Gives : (answer wanted : Result Program LendRefusal) → Type 0
Gives answer wanted = (answer ≡ wanted) ⊎ (answer ≡ Err refusal.Memory)
