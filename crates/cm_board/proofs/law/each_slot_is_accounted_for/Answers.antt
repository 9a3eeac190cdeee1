use Rattle.cm_board.proofs.MomentLaw.{one_holder, is_held, task_waits, asks_agree, is_in}
use Rattle.cm_board.proofs.law.each_slot_is_accounted_for.Goals as goal

pub returns-clause-holder : goal.returns-clause-holder
returns-clause-holder g c = one_holder _ _ _

pub returns-clause-held : goal.returns-clause-held
returns-clause-held g c = is_held _ _ _

pub returns-clause-task : goal.returns-clause-task
returns-clause-task g c = task_waits _ _ _

pub returns-clause-asks : goal.returns-clause-asks
returns-clause-asks g c = asks_agree _ _ _

pub returns-clause-filled : goal.returns-clause-filled
returns-clause-filled g c = is_in _ _ _
