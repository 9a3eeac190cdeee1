use Rattle.cm_strand.proofs.law.the_root_ends_as_the_elision.Goals as goal
use Rattle.cm_strand.proofs.RootLaw.{root_ends}

pub returns : goal.returns
returns c = root_ends
