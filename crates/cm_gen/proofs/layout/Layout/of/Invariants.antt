use Rattle.std.proofs.Common.{◌≡◌, take}
use Rattle.cm_syntax.specs.Frame.{slots_words}
use Rattle.cm_gen.specs.Builder.{ends_of}
use Rattle.cm_gen.proofs.layout.Layout.of.Given as goal

-- the ends and the words of the slots so far
abbrev pub invariant-loop-slot : goal.invariant-loop-slot
invariant-loop-slot l = (l.ends ≡ ends_of 0 (take l.slot-index l.slots)) × (l.words ≡ slots_words (take l.slot-index l.slots))
