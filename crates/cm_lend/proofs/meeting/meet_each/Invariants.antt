use Rattle.std.proofs.Common.{take}
use Rattle.cm_lend.specs.Summary.{MeetsAt, IsBetter}
use Rattle.cm_lend.proofs.meeting.meet_each.Given as goal

abbrev pub invariant-loop-loan : goal.invariant-loop-loan
invariant-loop-loan l = IsBetter (MeetsAt (take l.loan-index l.leaving) l.mention) l.fn.before l.best
