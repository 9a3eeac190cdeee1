use Rattle.cm_gen.proofs.standing.standing_keeps_with_more_words.Goals as goal
use Rattle.cm_isa.specs.Address.{InstructionAt}
use Rattle.cm_isa.proofs.Image.{image_is_one}
use Rattle.cm_gen.proofs.images.MoreWordsLaw.{holds_more, exact_more, stands_more}

pub returns-clause-exact : goal.returns-clause-exact
returns-clause-exact c = λ program form page input words spot left d h m more x larger. exact_more program form page input (InstructionAt words) spot left d h m more larger x

pub returns-clause-within : goal.returns-clause-within
returns-clause-within c = λ program form page input words spot left d h m more x larger. stands_more program form page input (InstructionAt words) (image_is_one words) spot left d h m more larger x

pub returns-clause-holds : goal.returns-clause-holds
returns-clause-holds c = λ program page calls frames h words more larger x. holds_more program page calls frames h words more larger x
