use Rattle.cm_syntax.proofs.naming.SoundLaw.{frames_agree}
use Rattle.cm_syntax.proofs.law.frame_words_agree.Goals as goal

pub returns : goal.returns
returns c = frames_agree
