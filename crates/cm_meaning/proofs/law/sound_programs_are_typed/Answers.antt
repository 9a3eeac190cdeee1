use Rattle.cm_meaning.proofs.TypingLaw.{sound_typed}
use Rattle.cm_meaning.proofs.law.sound_programs_are_typed.Goals as goal

pub returns : goal.returns
returns c = sound_typed
