use Rattle.cm_deques.proofs.Steps.{in_order, none_lost}
use Rattle.cm_deques.proofs.law.no_task_is_lost.Goals as goal

pub returns-clause-order : goal.returns-clause-order
returns-clause-order g c = in_order _

pub returns-clause-none : goal.returns-clause-none
returns-clause-none g c = none_lost _
