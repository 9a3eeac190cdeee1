use Rattle.cm_meaning.proofs.SomeEndLaw.{children_join}
use Rattle.cm_meaning.proofs.ChildLaw.{some_join, joins_back}
use Rattle.cm_meaning.proofs.lead_law.done_children_join.Goals as goal

pub returns-clause-collects : goal.returns-clause-collects
returns-clause-collects c = λ program input limits p t sound accepted r e are. children_join program input limits sound accepted p t r e are

pub returns-clause-some : goal.returns-clause-some
returns-clause-some c = λ program input limits p t sound accepted r e are. some_join program input limits sound accepted p r t e are

pub returns-clause-back : goal.returns-clause-back
returns-clause-back c = λ program input limits p t later g loans one sound accepted r e j l s. joins_back program input limits sound accepted p r t later g loans one e j l s
