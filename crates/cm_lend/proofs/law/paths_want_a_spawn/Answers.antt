use Rattle.cm_syntax.specs.Evaluation.{function_order}
use Rattle.cm_syntax.specs.Lending.{Lends, Mentions}
use Rattle.cm_lend.proofs.PathLaw.{walk_holds}
use Rattle.cm_lend.proofs.SyncLaw.{path_has_spawn}
use Rattle.cm_lend.proofs.law.paths_want_a_spawn.Goals as goal

pub returns : goal.returns
returns c = λ f spawn variable at h.
    path_has_spawn (function_order f) spawn variable at (walk_holds (Lends spawn variable) (Mentions variable at) (function_order f) h.0 h.1 h.2)
