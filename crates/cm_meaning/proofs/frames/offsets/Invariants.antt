use Rattle.std.proofs.Common.{◌≡◌, take}
use Rattle.cm_syntax.specs.Frame.{slots_words}
use Rattle.cm_meaning.specs.Layout.{offsets_from}
use Rattle.cm_meaning.proofs.frames.offsets.Given as goal

abbrev pub invariant-loop-slot : goal.invariant-loop-slot
invariant-loop-slot l = (l.offsets ≡ offsets_from 0 (take l.slot-index l.slots)) × (l.before ≡ slots_words (take l.slot-index l.slots))
