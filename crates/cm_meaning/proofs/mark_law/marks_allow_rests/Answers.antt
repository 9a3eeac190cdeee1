use Rattle.cm_meaning.proofs.MarkSourceLaw.{bodies_allowed}
use Rattle.cm_meaning.proofs.MarkStepLaw.{steps_allowed}
use Rattle.cm_meaning.proofs.MarkLaw.{item_allowed, marked_at}
use Rattle.cm_meaning.proofs.mark_law.marks_allow_rests.Goals as goal

pub returns-clause-bodies : goal.returns-clause-bodies
returns-clause-bodies c = bodies_allowed

pub returns-clause-kept : goal.returns-clause-kept
returns-clause-kept c = λ program page input c h bodies a. steps_allowed program page input c h bodies a

pub returns-clause-frames : goal.returns-clause-frames
returns-clause-frames c = item_allowed

pub returns-clause-depths : goal.returns-clause-depths
returns-clause-depths c = marked_at
