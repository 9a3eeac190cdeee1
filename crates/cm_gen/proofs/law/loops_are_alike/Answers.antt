use Rattle.cm_gen.proofs.sizes.SizeLaw.{while_turn}
use Rattle.cm_gen.proofs.law.loops_are_alike.Goals as goal

pub returns : goal.returns
returns c = while_turn
