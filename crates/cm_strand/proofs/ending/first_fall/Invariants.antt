use Rattle.std.proofs.Common.{◌≡◌, drop}
use Rattle.cm_strand.specs.Fall.{fall_from}
use Rattle.cm_strand.specs.declared.ending.Fall.TheVariants as fall
use Rattle.cm_strand.proofs.ending.first_fall.Given as goal

-- the fall so far with the holes that are left
abbrev pub invariant-loop-index : goal.invariant-loop-index
invariant-loop-index l = fall_from l.index (fall.None l.ticks) (drop l.index l.holes) ≡ fall_from 0 (fall.None 0) l.holes
