use Rattle.cilkm.proofs.StillLaw.{one_answer}
use Rattle.cilkm.proofs.verdict.one_answer.Goals as goal

pub returns : goal.returns
returns c = one_answer
