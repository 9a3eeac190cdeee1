use Rattle.cm_gen.proofs.sizes.FitsLaw.{fits}
use Rattle.cm_gen.proofs.law.frames_hold_temporaries.Goals as goal

pub returns : goal.returns
returns c = fits
