use Rattle.std.proofs.Common.{◌≡◌, ◌++◌, ◌≤◌, drop, length}
use Rattle.std.specs.String.{string_bytes}
use Rattle.cm_meaning.specs.Output.{numbers_of}
use Rattle.cm_meaning.specs.Printed.{laid, entries_of}
use Rattle.cm_meaning.specs.Ended.{lines}
use Rattle.cm_meaning.proofs.ended_text.+lines.Given as goal

-- with the lines of the numbers and holes that are left, it is the whole
abbrev pub invariant-put_printed-loop-hole : goal.invariant-put_printed-loop-hole
invariant-put_printed-loop-hole l =
    (string_bytes l.text ++ lines (numbers_of (laid l.at l.rest (drop l.hole-index l.hole-items))) ≡
    string_bytes l.initial.text ++ lines (numbers_of (entries_of l.printed)))
    × (length l.rest ≤ length l.printed.numbers.items)
