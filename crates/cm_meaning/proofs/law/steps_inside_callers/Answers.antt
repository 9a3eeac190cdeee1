use Rattle.cm_meaning.proofs.InsideLaw.{within}
use Rattle.cm_meaning.proofs.law.steps_inside_callers.Goals as goal

pub returns : goal.returns
returns c = λ program page input x z c h. within program page input x z c h
