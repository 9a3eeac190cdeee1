use Rattle.std.proofs.Common.{◌≡◌, ◌++◌, drop}
use Rattle.std.specs.String.{string_bytes}
use Rattle.cm_meaning.specs.Ended.{lines}
use Rattle.cm_meaning.proofs.ended_text.put_lines.Given as goal

-- with the lines of the numbers that are left, it is the whole
abbrev pub invariant-loop-number : goal.invariant-loop-number
invariant-loop-number l =
    string_bytes l.text ++ lines (drop l.number-index l.numbers) ≡ string_bytes l.initial.text ++ lines l.numbers
