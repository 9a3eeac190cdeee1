-- What is said of single source texts, so that the definitions can be held against texts worked out by hand.
use Rattle.std.specs.Prelude.{◌≡◌, ℕ, List, [], Option, None, Some}
use Rattle.cm_syntax.specs.declared.stmt.Tree.{Tree}
use Rattle.cm_syntax.specs.Grammar.{IsSourceOf}
use Rattle.cm_syntax.specs.Fault.{faults, program_of}
use Rattle.cm_lend.specs.Answer.{IsAnswer}
use Rattle.cm_lend.specs.declared.breach.Breach.{Breach}
use Rattle.cm_lend.specs.declared.breach.Breach.TheVariants as breach

-- the source has a tree without faults, and this is answered of its program
abbrev pub HasAnswer : (source : List ℕ) → Option Breach → Type 0
HasAnswer source found = (tree : Tree) × IsSourceOf source tree × (faults tree ≡ []) × IsAnswer (program_of tree) found

-- the source's program obeys the lending rule
abbrev pub ObeysLending : (source : List ℕ) → Type 0
ObeysLending source = HasAnswer source None

-- the mention at this offset is answered, with the spawn at that one
abbrev pub IsRefusedLent : (source : List ℕ) → (at spawn : ℕ) → Type 0
IsRefusedLent source at spawn = HasAnswer source (Some (breach.Lent at spawn))

-- what is the same at this offset is answered
abbrev pub IsRefusedSame : (source : List ℕ) → (at : ℕ) → Type 0
IsRefusedSame source at = HasAnswer source (Some (breach.Same at))
