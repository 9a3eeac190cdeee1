use Rattle.cm_meaning.proofs.RunLaw.{first_settled, settled_step}
use Rattle.cm_meaning.proofs.law.states_stay_settled.Goals as goal

pub returns-clause-first : goal.returns-clause-first
returns-clause-first c = first_settled

pub returns-clause-step : goal.returns-clause-step
returns-clause-step c = settled_step
