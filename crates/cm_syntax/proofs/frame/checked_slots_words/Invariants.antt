use Rattle.std.proofs.Common.{◌≡◌, ◌+◌, drop}
use Rattle.cm_syntax.specs.Frame as frame
use Rattle.cm_syntax.proofs.frame.checked_slots_words.Given as goal

-- with the slots that are left, what was added comes to the whole
abbrev pub invariant-loop-slot : goal.invariant-loop-slot
invariant-loop-slot l = l.words + frame.slots_words (drop l.slot-index l.slots) ≡ frame.slots_words l.slots
