use Rattle.std.proofs.Common.{◌≡◌, ◌+◌, ◌*◌, take}
use Rattle.cm_isa.specs.Address.{AreWordsOf}
use Rattle.cm_gen.specs.Part.{laid}
use Rattle.cm_gen.proofs.laying.lay.Given as goal

-- the words so far are those of the parts so far
abbrev pub invariant-loop-at : goal.invariant-loop-at
invariant-loop-at l = AreWordsOf l.words (laid l.start (take l.at l.code)) × (l.address ≡ l.start + 4 * l.at)
