use Rattle.std.proofs.Common.{take}
use Rattle.cm_hart.specs.Code.{AreDecoded}
use Rattle.cm_hart.proofs.code.decoded.Given as goal

-- the words so far are decoded
abbrev pub invariant-words : goal.invariant-words
invariant-words l = AreDecoded (take l.index l.words) l.instrs.items
