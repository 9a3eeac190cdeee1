use Rattle.cilkm.proofs.PieceLaw.{IsInside}
use Rattle.cilkm.proofs.pieces.piece_length.Given as goal

abbrev pub invariant-loop-at : goal.invariant-loop-at
invariant-loop-at l = IsInside l.bytes l.at
