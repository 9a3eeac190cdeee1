use Rattle.cm_hart.proofs.Outcome.{may_step}
use Rattle.cm_hart.proofs.law.machine_steps_are_allowed.Goals as goal

pub returns : goal.returns
returns c = may_step
