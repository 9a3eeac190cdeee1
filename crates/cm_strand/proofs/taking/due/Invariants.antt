use Rattle.std.proofs.Common.{◌≡◌, Some, drop}
use Rattle.cm_strand.specs.Due.{all_due, both}
use Rattle.cm_strand.proofs.taking.due.Given as goal

-- the ticks so far with those of the holes that are left
abbrev pub invariant-loop-hole : goal.invariant-loop-hole
invariant-loop-hole l = both (Some l.due) (all_due (drop l.hole-index l.holes)) ≡ all_due l.holes
