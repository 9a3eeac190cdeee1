use Rattle.std.proofs.Common.{length}
use Rattle.cm_lend.proofs.breach.+again.Given as goal

abbrev pub decreases-again : goal.decreases-again
decreases-again l = length l.passed.now
