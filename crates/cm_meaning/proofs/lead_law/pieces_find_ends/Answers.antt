use Rattle.cm_meaning.proofs.SomeEndLaw.{some_end}
use Rattle.cm_meaning.proofs.lead_law.pieces_find_ends.Goals as goal

pub returns : goal.returns
returns c = λ program input limits p sound accepted r. some_end program input limits sound accepted p r
