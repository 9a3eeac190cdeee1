-- What the environment of one hart does at a service: it prints, replies with a word, or ends the run.
use Rattle.std.specs.Prelude.{ℕ, ◌==◌, if◌then◌else◌, ℤ, Option, None, Some, List, length, slice_get}
use Rattle.std.specs.Int.{w32, cast_unsigned}
use Rattle.cm_meaning.specs.declared.ended.Trap.TheVariants as trap
use Rattle.cm_serial.specs.declared.service.Stop.TheVariants as stop
use Rattle.cm_serial.specs.declared.service.Answer.{Answer}
use Rattle.cm_serial.specs.declared.service.Answer.TheVariants as answer

-- a number of the input is the reply, and where it isn't there, that is the program's own error
abbrev pub number_answer : Option ℤ → Answer
number_answer (Some number) = answer.Replies (cast_unsigned w32 number)
number_answer None = answer.Stops (stop.Trap trap.Input)

-- What is done at the service of this number, where VALUE has this word: 0 ends the run, 1 prints, 2 gives the number of the
-- input at an index, 3 tells how many there are, 6 ends the run as spent, and 7, 8 and 9 by a trap. There are no others.
abbrev pub answer_at : (input : List ℤ) → (service value : ℕ) → Answer
answer_at input service value =
    if service == 0 then answer.Stops stop.Value
    else if service == 1 then answer.Prints
    else if service == 2 then number_answer (slice_get input value)
    else if service == 3 then answer.Replies (length input)
    else if service == 6 then answer.Stops stop.Spent
    else if service == 7 then answer.Stops (stop.Trap trap.Divide)
    else if service == 8 then answer.Stops (stop.Trap trap.Index)
    else if service == 9 then answer.Stops (stop.Trap trap.Stack)
    else answer.Nothing
