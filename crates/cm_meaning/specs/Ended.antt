-- How a run ended, as the definitions say it, and the text of an end.
use Rattle.std.specs.Prelude.{◌≡◌, ℕ, ℤ, List, [], ◌∷◌, ◌++◌, codes, Some}
use Rattle.std.specs.Fmt.{signed_decimal}
use Rattle.cm_syntax.specs.Trap as defined
use Rattle.cm_meaning.specs.declared.ended.Limits as declared_limits
use Rattle.cm_meaning.specs.declared.ended.Trap as declared_trap
use Rattle.cm_meaning.specs.declared.ended.Trap.TheVariants as trap
use Rattle.cm_meaning.specs.declared.ended.Ended.{Ended}
use Rattle.cm_meaning.specs.declared.ended.Ended.TheVariants as ended
use Rattle.cm_meaning.specs.End as end
use Rattle.cm_meaning.specs.Meaning as meaning
use Rattle.cm_meaning.specs.Output.{numbers_of, open_count}

-- the limits
abbrev pub limits_of : declared_limits.Limits → meaning.Limits
limits_of limits = record { ticks = limits.ticks; stack = limits.stack; page = limits.page }

-- the trap
abbrev pub trap_of : declared_trap.Trap → defined.Trap
trap_of trap.Divide = defined.Divide
trap_of trap.Index = defined.Index
trap_of trap.Input = defined.Input
trap_of trap.Stack = defined.Stack

-- the end, of which the output is the numbers in serial order
abbrev pub end_of : Ended → end.End
end_of (ended.Done output value ticks) = end.Done (numbers_of output) (Some value) ticks
end_of (ended.Trap output kind ticks) = end.Trapped (numbers_of output) (trap_of kind) ticks
end_of ended.Spent = end.Spent

-- every hole of the output is filled
abbrev pub IsFilled : Ended → Type 0
IsFilled (ended.Done output value ticks) = open_count output ≡ 0
IsFilled (ended.Trap output kind ticks) = open_count output ≡ 0
IsFilled ended.Spent = Unit {0}

-- the numbers in decimal, one a line
abbrev pub lines : List ℤ → List ℕ
lines [] = []
lines (number ∷ more) = signed_decimal number ++ (codes "\n" ++ lines more)

-- the line of a trap
abbrev pub trap_line : declared_trap.Trap → List ℕ
trap_line trap.Divide = codes "trap divide\n"
trap_line trap.Index = codes "trap index\n"
trap_line trap.Input = codes "trap input\n"
trap_line trap.Stack = codes "trap stack\n"

-- the text of an end: the printed numbers, and then its value or its trap; or that the ticks were spent
abbrev pub ended_text : Ended → List ℕ
ended_text (ended.Done output value ticks) = lines (numbers_of output) ++ (codes "value " ++ (signed_decimal value ++ codes "\n"))
ended_text (ended.Trap output kind ticks) = lines (numbers_of output) ++ trap_line kind
ended_text ended.Spent = codes "budget\n"
