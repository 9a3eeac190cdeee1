use Rattle.cm_syntax.specs.Lending.{Lends, Mentions}
use Rattle.cm_lend.proofs.PathLaw.{hold_walk, walk_holds}
use Rattle.cm_lend.proofs.law.paths_of_parts.Goals as goal

pub returns : goal.returns
returns c = λ order spawn variable at. (
  λ h. walk_holds (Lends spawn variable) (Mentions variable at) order h.0 h.1 h.2,
  λ h. hold_walk (Lends spawn variable) (Mentions variable at) order h,
)
