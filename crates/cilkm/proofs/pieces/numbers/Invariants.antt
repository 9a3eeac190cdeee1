use Rattle.std.proofs.Common.{◌-◌, length, drop, true}
use Rattle.cilkm.specs.Pieces.{pieces}
use Rattle.cilkm.proofs.PieceLaw.{Read}
use Rattle.cilkm.proofs.pieces.numbers.Given as goal

abbrev pub decreases-loop-at : goal.decreases-loop-at
decreases-loop-at l = length l.input - l.at

abbrev pub invariant-loop-at : goal.invariant-loop-at
invariant-loop-at l = Read (pieces l.fn.start true (drop l.fn.start l.input)) (pieces l.at true (drop l.at l.input)) l.numbers
