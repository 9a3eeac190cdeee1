use Rattle.std.proofs.Common.{arith}
use Rattle.cm_gen.proofs.sizes.BoundLaw.{source_bound, sound_bound}
use Rattle.cm_gen.proofs.law.images_are_bounded.Goals as goal

pub returns-clause-words : goal.returns-clause-words
returns-clause-words c = source_bound

pub returns-clause-short : goal.returns-clause-short
returns-clause-short c = λ bytes tree form page source le. omega (arith, source_bound bytes tree form page source, le)

pub returns-clause-sound : goal.returns-clause-sound
returns-clause-sound c = sound_bound
