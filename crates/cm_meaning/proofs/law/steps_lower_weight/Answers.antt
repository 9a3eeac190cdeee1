use Rattle.cm_meaning.proofs.WeightLaw.{lowers}
use Rattle.cm_meaning.proofs.law.steps_lower_weight.Goals as goal

pub returns : goal.returns
returns c = lowers
