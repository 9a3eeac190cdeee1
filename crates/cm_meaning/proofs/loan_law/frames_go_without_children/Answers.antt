use Rattle.cm_meaning.proofs.ChildLaw.{below_floor, floor_rises, none_gone, none_ended}
use Rattle.cm_meaning.proofs.loan_law.frames_go_without_children.Goals as goal

pub returns-clause-below : goal.returns-clause-below
returns-clause-below c = λ program input limits p d sound accepted r. below_floor program input limits sound accepted p r d

pub returns-clause-rises : goal.returns-clause-rises
returns-clause-rises c = λ program input limits p d g sound accepted r. floor_rises program input limits sound accepted p r d g

pub returns-clause-gone : goal.returns-clause-gone
returns-clause-gone c = λ program input limits p f d g sound accepted r. none_gone program input limits sound accepted p r f d g

pub returns-clause-ended : goal.returns-clause-ended
returns-clause-ended c = λ program input limits p v d sound accepted r. none_ended program input limits sound accepted p r v d
