use Rattle.cm_gen.proofs.standing.standing_takes_what_is_joined.Goals as goal
use Rattle.cm_isa.specs.Address.{InstructionAt}
use Rattle.cm_gen.proofs.images.JoinedLaw.{exact_joined}

pub returns : goal.returns
returns c = λ program form page input words spot left d h more all m x sum y wholes. exact_joined program page form input (InstructionAt words) spot left d h more all m x sum y wholes
