use Rattle.cm_rack.proofs.TicketLaw.{one_ticket, is_there, is_named, one_holder, is_held}
use Rattle.cm_rack.proofs.law.one_ticket_each.Goals as goal

pub returns-clause-one : goal.returns-clause-one
returns-clause-one g c = one_ticket _

pub returns-clause-there : goal.returns-clause-there
returns-clause-there g c = is_there _

pub returns-clause-named : goal.returns-clause-named
returns-clause-named g c = is_named _

pub returns-clause-holder : goal.returns-clause-holder
returns-clause-holder g c = one_holder _

pub returns-clause-held : goal.returns-clause-held
returns-clause-held g c = is_held _
