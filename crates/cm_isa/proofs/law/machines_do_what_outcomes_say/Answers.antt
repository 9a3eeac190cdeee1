use Rattle.cm_isa.proofs.Machine.{access_by_machine, machine_by_outcome, outcome_by_machine}
use Rattle.cm_isa.proofs.law.machines_do_what_outcomes_say.Goals as goal

pub returns-clause-step : goal.returns-clause-step
returns-clause-step c = λ view rs pc i m map within. outcome_by_machine view map rs pc i within m

pub returns-clause-outcome : goal.returns-clause-outcome
returns-clause-outcome c = λ view rs pc address i map within. machine_by_outcome view map rs pc i within address

pub returns-clause-allowed : goal.returns-clause-allowed
returns-clause-allowed c = λ view rs pc i m map. access_by_machine view map rs pc i m
