use Rattle.cm_meaning.proofs.LeadLaw.{heard, answered, some_awaits}
use Rattle.cm_meaning.proofs.lead_law.answers_are_heard.Goals as goal

pub returns-clause-heard : goal.returns-clause-heard
returns-clause-heard c = heard

pub returns-clause-answered : goal.returns-clause-answered
returns-clause-answered c = answered

pub returns-clause-awaited : goal.returns-clause-awaited
returns-clause-awaited c = some_awaits

pub returns-clause-cells : goal.returns-clause-cells
returns-clause-cells c = λ program input limits ask e w a. a.cells
