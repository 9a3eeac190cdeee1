use Rattle.std.proofs.Common.{take}
use Rattle.cm_lend.specs.Breach.{IsBest, BreaksAmong}
use Rattle.cm_lend.proofs.checking.breach_among.Given as goal

abbrev pub invariant-loop-function : goal.invariant-loop-function
invariant-loop-function l = IsBest (BreaksAmong (take l.function-index l.functions)) l.best
