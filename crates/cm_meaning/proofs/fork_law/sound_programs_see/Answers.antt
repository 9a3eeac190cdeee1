use Rattle.cm_meaning.proofs.VisibleLaw.{sound_sees}
use Rattle.cm_meaning.proofs.fork_law.sound_programs_see.Goals as goal

pub returns : goal.returns
returns c = sound_sees
