use Rattle.cm_meaning.proofs.CheckedLaw.{never_stuck}
use Rattle.cm_meaning.proofs.fork_law.checked_programs_go_on.Goals as goal

pub returns : goal.returns
returns c = never_stuck
