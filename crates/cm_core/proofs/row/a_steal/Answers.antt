use Rattle.std.proofs.Common.{refl}
use Rattle.cm_core.proofs.row.a_steal.Goals as goal

pub returns-clause-did : goal.returns-clause-did
returns-clause-did c = refl

pub returns-clause-stopped : goal.returns-clause-stopped
returns-clause-stopped c = refl
