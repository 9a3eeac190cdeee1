use Rattle.cm_syntax.proofs.naming.SoundLaw.{sound_frame}
use Rattle.cm_syntax.proofs.law.frames_of_sound_programs.Goals as goal

pub returns : goal.returns
returns c = sound_frame
