use Rattle.cm_gen.proofs.standing.steps_keep_states_formed.Goals as goal
use Rattle.cm_gen.proofs.states.FormedLaw.{step_keeps, start_formed}

pub returns-clause-first : goal.returns-clause-first
returns-clause-first c = λ program page limit input runs. start_formed program page limit input runs

pub returns-clause-step : goal.returns-clause-step
returns-clause-step c = λ program page limit input d h runs x. step_keeps program page limit input runs d h x
