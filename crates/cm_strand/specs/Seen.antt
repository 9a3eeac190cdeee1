-- Which strand on paper a strand of the code is. What contracts alone see of a strand (what children are asked for, words, the depths of
-- frames) has no counterpart in the code, so the strands on paper that differ in these alone are one strand of the code.
use Rattle.std.specs.Prelude.{◌≡◌, ℕ, ◌-◌, ◌^◌, ◌≤◌, min, Bool, Option, None, Some, List, [], ◌∷◌, ◌++◌, slice_index}
use Rattle.cm_meaning.specs.End.{End, Done, Trapped, Spent}
use Rattle.cm_meaning.specs.Output as output
use Rattle.cm_meaning.specs.Ended.{trap_of}
use Rattle.cm_syntax.specs.Trap as paper_trap
use Rattle.cm_meaning.specs.declared.ended.Trap as code_trap
use Rattle.cm_meaning.specs.declared.ended.Trap.TheVariants as kind
use Rattle.cm_strand.specs.Strand.{Strand, Filling, empty, filled, Hole, Entry, number, hole, Scope, Course, going, ending, paid, hole_count, Request}
use Rattle.cm_strand.specs.Owned.{Owned, no_words}
use Rattle.cm_strand.specs.Turn.{scopes_at, fail, collect, pop}
use Rattle.cm_meaning.specs.Piece.{IsDone}
use Rattle.cm_isa.specs.declared.convention.TheConstants as reg
use Rattle.cm_hart.specs.declared.hart.Hart.{Hart}
use Rattle.cm_strand.specs.declared.log.Filling as code_filling
use Rattle.cm_strand.specs.declared.log.Filling.TheVariants as filling
use Rattle.cm_strand.specs.declared.log.Hole as code_hole
use Rattle.cm_strand.specs.declared.log.Log as code_log
use Rattle.cm_strand.specs.declared.scope.Scope as code_scope
use Rattle.cm_strand.specs.declared.strand.Course as code_course
use Rattle.cm_strand.specs.declared.strand.Course.TheVariants as course
use Rattle.cm_strand.specs.declared.strand.Strand as code_strand

-- the trap in the code
abbrev pub kind_of : paper_trap.Trap → code_trap.Trap
kind_of paper_trap.Divide = kind.Divide
kind_of paper_trap.Index = kind.Index
kind_of paper_trap.Input = kind.Input
kind_of paper_trap.Stack = kind.Stack

-- what the code keeps of an end; its printed numbers stand in the output, and its value went to its destination
abbrev pub end_filling : End → (paid : Bool) → code_filling.Filling
end_filling (Done out v n) paid = filling.Done n paid
end_filling (Trapped out k n) paid = filling.Trapped (kind_of k) n
end_filling Spent paid = filling.Spent

abbrev pub filling_of : Filling → code_filling.Filling
filling_of empty = filling.Empty
filling_of (filled e paid) = end_filling e paid

abbrev pub hole_of : Hole → code_hole.Hole
hole_of H = record { used = H.used; target = H.target; filling = filling_of H.filling }

-- the holes of a log, the first one first
abbrev pub holes_of : List Entry → List code_hole.Hole
holes_of [] = []
holes_of (number v ∷ log) = holes_of log
holes_of (hole H ∷ log) = holes_of log ++ hole_of H ∷ []

-- what the output has for a hole: a piece of numbers, once an end that has some filled it
abbrev pub end_entry : End → output.Entry
end_entry (Done out v n) = output.Filled out
end_entry (Trapped out k n) = output.Filled out
end_entry Spent = output.Open

abbrev pub entry_of : Filling → output.Entry
entry_of empty = output.Open
entry_of (filled e paid) = end_entry e

-- the output of a log, the first number or hole first
abbrev pub output_of : List Entry → List output.Entry
output_of [] = []
output_of (number v ∷ log) = output_of log ++ output.Number v ∷ []
output_of (hole H ∷ log) = output_of log ++ entry_of H.filling ∷ []

-- the largest word
abbrev pub largest : ℕ
largest = 2 ^ 32 - 1

-- the log in the code: output, holes, which a word numbers, and the ticks that were taken, as far as a word counts
pub record IsLog (l : code_log.Log) (log : List Entry) : Type 0 where
  pub output : l.output ≡ output_of log
  pub holes : l.holes.items ≡ holes_of log
  pub paid : l.paid ≡ min (paid log) largest
  pub few : hole_count log ≤ 2 ^ 32

-- the open scopes, the outermost first
abbrev pub scope_of : Scope → code_scope.Scope
scope_of s = record { frame = s.frame; low = s.low; first = s.first }

abbrev pub scopes_of : List Scope → List code_scope.Scope
scopes_of [] = []
scopes_of (s ∷ scopes) = scopes_of scopes ++ scope_of s ∷ []

abbrev pub course_of : code_course.Course → Course
course_of course.Going = going
course_of (course.Ending None) = ending None
course_of (course.Ending (Some k)) = ending (Some (trap_of k))

-- the strand in the code is this one on paper
pub record IsStrand (s : code_strand.Strand) (S : Strand) : Type 0 where
  pub registers : S.registers ≡ slice_index s.hart.regs
  pub counter : S.counter ≡ s.hart.pc
  pub start : S.start ≡ s.start
  pub log : IsLog s.log S.log
  pub scopes : s.scopes.items ≡ scopes_of S.scopes
  pub course : S.course ≡ course_of s.course

-- each log on paper that this one is has a property
abbrev pub LogOf : code_log.Log → (List Entry → Type 0) → Type 0
LogOf l P = (log : List Entry) → IsLog l log → P log

-- each strand on paper that this one is has a property
abbrev pub StrandOf : code_strand.Strand → (Strand → Type 0) → Type 0
StrandOf s P = (S : Strand) → IsStrand s S → P S

-- the trap on paper, if there is one
abbrev pub fail_of : Option code_trap.Trap → Option paper_trap.Trap
fail_of None = None
fail_of (Some k) = Some (trap_of k)

-- a hole at its spawn
abbrev pub fresh_hole : (used target : ℕ) → Request → Hole
fresh_hole used target request = record { used = used; target = target; request = request; filling = empty; aside = no_words }

-- the output with the numbers of an end in a hole, if the end has some
abbrev pub pieced : ℕ → End → List output.Entry → List output.Entry
pieced n (Done out v t) entries = output.filled_at n out entries
pieced n (Trapped out k t) entries = output.filled_at n out entries
pieced n Spent entries = entries

-- the strand in a scope of the running frame, which is opened where it is not open yet
abbrev pub in_scope : Strand → (first depth : ℕ) → Strand
in_scope S first depth = record S { scopes = scopes_at S.scopes (S.registers reg.FP) (S.registers reg.SP) first depth }

-- An answer that isn't by a value is popped: its hole is filled, and the strand is ending for want of ticks.
abbrev pub PopsFallen : Type 0
PopsFallen = (s : code_strand.Strand) (S : Strand) (n : ℕ) (e : End) (aside words : Owned) → (IsDone e → ⊥)
    → IsStrand s (fail (collect S n e aside words) None) → IsStrand s (pop S n e aside words)

-- the hart of a strand, and its chain
abbrev pub hart_of : code_strand.Strand → Hart
hart_of s = s.hart

abbrev pub chain_of : code_strand.Strand → Option (List ℕ)
chain_of s = s.chain
