use Rattle.std.proofs.Common.{take}
use Rattle.cm_lend.specs.Summary.{Meets, IsBetter}
use Rattle.cm_lend.proofs.meeting.meet_all.Given as goal

abbrev pub invariant-loop-mention : goal.invariant-loop-mention
invariant-loop-mention l = IsBetter (Meets l.leaving (take l.mention-index l.entering)) l.fn.before l.best
