use Rattle.cm_gen.proofs.standing.standing_needs_its_words.Goals as goal
use Rattle.cm_isa.specs.Address.{InstructionAt}
use Rattle.cm_gen.proofs.frames.FootprintLaw.{stands_with, holds_with}

pub returns-clause-exact : goal.returns-clause-exact
returns-clause-exact c = λ program form page limit input words spot left d h m later formed x same. stands_with program page form limit input (InstructionAt words) spot left d h m later formed x same

pub returns-clause-holds : goal.returns-clause-holds
returns-clause-holds c = λ program page calls frames h words later x same. holds_with program page calls frames h words later 0 x same
