use Rattle.cm_strand.proofs.law.strands_give_answers.Goals as goal
use Rattle.cm_strand.proofs.RootLaw.{child_answers}

pub returns : goal.returns
returns c = λ w request e all parent reached asks x done. child_answers w request e all parent reached asks x done
