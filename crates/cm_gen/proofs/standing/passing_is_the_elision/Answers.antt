use Rattle.cm_gen.proofs.standing.passing_is_the_elision.Goals as goal
use Rattle.cm_gen.proofs.images.PassingLaw.{elided}

pub returns : goal.returns
returns c = λ program form page input old new left later d e h g passes. elided program form page input passes
