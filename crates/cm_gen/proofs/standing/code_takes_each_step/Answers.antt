use Rattle.cm_gen.proofs.standing.code_takes_each_step.Goals as goal
use Rattle.cm_isa.specs.Address.{InstructionAt}
use Rattle.cm_gen.proofs.items.EachStepLaw.{each_step}

pub returns : goal.returns
returns c = λ program form page limit input words spot left d h m runs compiled few formed x. each_step program form page limit input (InstructionAt words) runs compiled spot left d h m few formed x
