use Rattle.std.proofs.Common.{◌∙◌}
use Rattle.cm_strand.proofs.DueLaw.{due_tells}
use Rattle.cm_strand.proofs.log.Log.due.Goals as goal

pub returns : goal.returns
returns c = λ log h. due_tells c.args.first c.args.left log c.as_slice.result.now c.due_from.result (c.as_slice.ensures.value ∙ h.holes) c.due_from.ensures
