use Rattle.cm_strand.proofs.SeenLaw.{fallen_pop}
use Rattle.cm_strand.proofs.answer.fallen_children_end_their_parent.Goals as goal

pub returns : goal.returns
returns c = fallen_pop
