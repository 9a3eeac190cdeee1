use Rattle.std.proofs.Common.{refl}
use Rattle.cm_core.proofs.row.a_fork.Goals as goal

pub returns-clause-did : goal.returns-clause-did
returns-clause-did c = refl

pub returns-clause-held : goal.returns-clause-held
returns-clause-held c = refl
