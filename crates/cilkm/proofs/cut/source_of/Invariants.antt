use Rattle.cilkm.proofs.CutLaw.{NoneBefore}
use Rattle.cilkm.proofs.cut.source_of.Given as goal

abbrev pub invariant-loop-at : goal.invariant-loop-at
invariant-loop-at l = NoneBefore l.input l.at
