use Rattle.std.proofs.Common.{take}
use Rattle.cm_lend.specs.Breach.{IsBest, IsOnceMore}
use Rattle.cm_lend.proofs.breach.once_more.Given as goal

abbrev pub invariant-loop-mark : goal.invariant-loop-mark
invariant-loop-mark l = IsBest (IsOnceMore l.variable (take l.mark-index l.more)) l.best
