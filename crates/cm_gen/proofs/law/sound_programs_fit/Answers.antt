use Rattle.cm_gen.proofs.sizes.SoundFitsLaw.{sound_functions}
use Rattle.cm_gen.proofs.sizes.WithinLaw.{sound_calls}
use Rattle.cm_gen.proofs.images.ImageLaw.{room_of}
use Rattle.cm_gen.proofs.law.sound_programs_fit.Goals as goal

pub returns-clause-fit : goal.returns-clause-fit
returns-clause-fit c = λ program sound. (sound_functions program sound).0

pub returns-clause-few : goal.returns-clause-few
returns-clause-few c = λ program sound. (sound_functions program sound).1

pub returns-clause-calls : goal.returns-clause-calls
returns-clause-calls c = sound_calls

pub returns-clause-room : goal.returns-clause-room
returns-clause-room c = λ program form page sound le. room_of program form page (sound_functions program sound).1 le
