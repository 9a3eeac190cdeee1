use Rattle.cm_meaning.proofs.SafetyLaw.{typed_start, typed_step}
use Rattle.cm_meaning.proofs.law.typed_programs_go_on.Goals as goal

pub returns-clause-first : goal.returns-clause-first
returns-clause-first c = typed_start

pub returns-clause-step : goal.returns-clause-step
returns-clause-step c program page input gives = typed_step program page input gives
