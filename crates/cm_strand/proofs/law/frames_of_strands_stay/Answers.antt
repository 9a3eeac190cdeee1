use Rattle.cm_strand.proofs.law.frames_of_strands_stay.Goals as goal
use Rattle.cm_strand.proofs.StayLaw.{frames_stay}

pub returns : goal.returns
returns c = λ n old new w l. frames_stay n old new w l
