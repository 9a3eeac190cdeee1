use Rattle.cm_meaning.proofs.ReachedMeaning.{fork_end}
use Rattle.cm_meaning.proofs.fork_law.forks_end.Goals as goal

pub returns : goal.returns
returns c = fork_end
