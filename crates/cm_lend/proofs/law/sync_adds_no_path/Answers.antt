use Rattle.cm_syntax.specs.Evaluation.{function_order}
use Rattle.cm_syntax.specs.Lending.{Lends, Mentions}
use Rattle.cm_lend.proofs.PathLaw.{hold_walk, walk_holds}
use Rattle.cm_lend.proofs.SyncLaw.{less_body}
use Rattle.cm_lend.proofs.law.sync_adds_no_path.Goals as goal

pub returns : goal.returns
returns c = λ f g spawn variable at adds h.
    let From = Lends spawn variable in
    let To = Mentions variable at in
    hold_walk From To (function_order f) ((less_body adds).holds spawn variable at (walk_holds From To (function_order g) h.0 h.1 h.2))
