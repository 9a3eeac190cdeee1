use Rattle.std.proofs.Common.{◌≡◌, map, take, drop, ◌++◌}
use Rattle.cm_strand.specs.Due.{taken_hole}
use Rattle.cm_strand.proofs.taking.take.Given as goal

-- those before are taken, and the others are as they were
abbrev pub invariant-loop-hole : goal.invariant-loop-hole
invariant-loop-hole l = l.holes ≡ map taken_hole (take l.hole-index l.initial.holes) ++ drop l.hole-index l.initial.holes
