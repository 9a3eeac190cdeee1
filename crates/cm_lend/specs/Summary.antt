-- What the code keeps of a piece of text.
use Rattle.std.specs.Prelude.{◌≡◌, ℕ, List, ◌⊎◌, ◌↔◌, Bool, true, Option, Some, Contains, get_or}
use Rattle.cm_syntax.specs.Walk.{Order}
use Rattle.cm_syntax.specs.Lending.{Lends, Mentions}
use Rattle.cm_lend.specs.Part.{Passes, Enters, Leaves}
use Rattle.cm_lend.specs.Breach.{IsBest, AtLeast, Breaks}
use Rattle.cm_lend.specs.declared.breach.Breach.{Breach}
use Rattle.cm_lend.specs.declared.breach.Breach.TheVariants as breach
use Rattle.cm_lend.specs.declared.meeting.Loan.{Loan}
use Rattle.cm_lend.specs.declared.meeting.Mention.{Mention}
use Rattle.cm_lend.specs.declared.summary.Summary.{Summary}

abbrev pub loan : (spawn variable : ℕ) → Loan
loan spawn variable = record { spawn = spawn; variable = variable }

abbrev pub mention : (variable at : ℕ) → Mention
mention variable at = record { variable = variable; at = at }

-- a loan that leaves one piece meets a mention that is entered in the next
abbrev pub Meets : List Loan → List Mention → Breach → Type 0
Meets leaving entering (breach.Lent at spawn) =
    (variable : ℕ) × Contains leaving (loan spawn variable) × Contains entering (mention variable at)
Meets leaving entering (breach.Same at) = ⊥

-- a loan that leaves a piece meets this mention
abbrev pub MeetsAt : List Loan → Mention → Breach → Type 0
MeetsAt leaving m (breach.Lent at spawn) = (at ≡ m.at) × Contains leaving (loan spawn m.variable)
MeetsAt leaving m (breach.Same at) = ⊥

-- the best of what was found before and of these
pub record IsBetter (Is : Breach → Type 0) (before result : Option Breach) : Type 0 where
  pub one_of : (result ≡ before) ⊎ ((b : Breach) × (result ≡ Some b) × Is b)
  pub kept : AtLeast result before
  pub best : (b : Breach) → Is b → AtLeast result (Some b)

-- the variable is marked, or beyond the marks
abbrev pub IsMarked : List Bool → (variable : ℕ) → Type 0
IsMarked marks variable = get_or marks variable true ≡ true

-- the variable of each loan is
abbrev pub AreMarked : List Loan → List Bool → Type 0
AreMarked loans marks = (l : Loan) → Contains loans l → IsMarked marks l.variable

-- the paths of a piece of text, and its breach that is answered
pub record Sums (order : Order) (s : Summary) : Type 0 where
  pub passes : (s.passes ≡ true) ↔ Passes order
  pub leaving : (spawn variable : ℕ) → Contains s.leaving (loan spawn variable) ↔ Leaves (Lends spawn variable) order
  pub entering : (variable at : ℕ) → Contains s.entering (mention variable at) ↔ Enters (Mentions variable at) order
  pub found : IsBest (Breaks order) s.found
