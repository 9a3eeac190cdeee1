use Rattle.cm_gen.proofs.standing.each_instruction_keeps_standing.Goals as goal
use Rattle.cm_isa.specs.Address.{InstructionAt}
use Rattle.cm_meaning.proofs.WeightLaw.{lowers}
use Rattle.cm_meaning.proofs.ShiftLaw.{shift}
use Rattle.cm_gen.proofs.states.FormedLaw.{step_keeps}
use Rattle.cm_gen.proofs.items.EachStepLaw.{each_step}
use Rattle.cm_gen.proofs.images.MomentLaw.{moment}

pub returns : goal.returns
returns c = λ program form page limit input words spot left d h m next runs compiled few formed shape stands maps steps.
    moment program form page limit input (InstructionAt words) compiled (each_step program form page limit input (InstructionAt words) runs compiled)
    (step_keeps program page limit input runs) (lowers program page input) (shift program page input) left d h spot m next few formed shape stands maps steps
