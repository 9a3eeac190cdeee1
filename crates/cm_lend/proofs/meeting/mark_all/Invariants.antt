use Rattle.std.proofs.Common.{take}
use Rattle.cm_lend.specs.Summary.{AreMarked}
use Rattle.cm_lend.proofs.meeting.mark_all.Given as goal

abbrev pub invariant-loop-loan : goal.invariant-loop-loan
invariant-loop-loan l = AreMarked (take l.loan-index l.loans) l.marks
