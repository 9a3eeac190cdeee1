use Rattle.cm_gen.proofs.standing.images_are_compiled.Goals as goal
use Rattle.cm_gen.proofs.images.CompiledLaw.{is_compiled}

pub returns : goal.returns
returns c = is_compiled
