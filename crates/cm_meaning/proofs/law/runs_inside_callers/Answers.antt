use Rattle.cm_meaning.proofs.RunLaw.{inside_run}
use Rattle.cm_meaning.proofs.law.runs_inside_callers.Goals as goal

pub returns : goal.returns
returns c = λ program page input x k a t h g out n run. inside_run program page input x k run
