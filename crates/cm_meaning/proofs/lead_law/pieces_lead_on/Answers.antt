use Rattle.cm_meaning.proofs.LeadLaw.{one_rule, both_lead, ends_before, reached_on, from_calls}
use Rattle.cm_meaning.proofs.lead_law.pieces_lead_on.Goals as goal

pub returns-clause-one : goal.returns-clause-one
returns-clause-one c = one_rule

pub returns-clause-both : goal.returns-clause-both
returns-clause-both c = both_lead

pub returns-clause-ends : goal.returns-clause-ends
returns-clause-ends c = ends_before

pub returns-clause-reached : goal.returns-clause-reached
returns-clause-reached c = reached_on

pub returns-clause-from_calls : goal.returns-clause-from_calls
returns-clause-from_calls c = from_calls
