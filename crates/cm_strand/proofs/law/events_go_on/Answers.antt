use Rattle.cm_meaning.specs.Meaning.{begun, main_ask}
use Rattle.cm_meaning.proofs.LeadLaw.{both_lead, ends_before, reached_on}
use Rattle.cm_strand.proofs.StayLaw.{walks_join}
use Rattle.cm_strand.proofs.EventsLaw.{all_events}
use Rattle.cm_strand.proofs.law.events_go_on.Goals as goal

pub returns-clause-reached : goal.returns-clause-reached
returns-clause-reached c = λ w request given spot s p x r. reached_on w.program w.limits.page w.input (begun (main_ask w.program w.limits)) p x.to r x.leads

pub returns-clause-ends : goal.returns-clause-ends
returns-clause-ends c = λ w request given spot s p x e g f. ends_before w.program w.limits.page w.input p x.to e g x.leads f

pub returns-clause-both : goal.returns-clause-both
returns-clause-both c = λ w request given later spot s t p x y. record {
  spot = y.spot;
  walk = walks_join spot x.spot y.spot x.walk y.walk;
  to = y.to;
  leads = both_lead w.program w.limits.page w.input p x.to y.to x.leads y.leads;
  stands = y.stands;
}

pub returns-clause-all : goal.returns-clause-all
returns-clause-all c = λ w request given spot new s last p q x events. all_events w.program w.limits.page w.input w.image request given spot new s last p q x events
