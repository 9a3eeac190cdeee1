use Rattle.cm_meaning.proofs.RunLaw.{beside_run}
use Rattle.cm_meaning.proofs.law.runs_beside_words.Goals as goal

pub returns : goal.returns
returns c = λ program page input a t h g b u out n settled sum low run. beside_run program page input run b u settled sum low
