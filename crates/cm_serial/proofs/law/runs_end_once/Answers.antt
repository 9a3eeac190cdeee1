use Rattle.cm_isa.specs.Address.{InstructionAt}
use Rattle.cm_isa.proofs.Image.{image_is_one}
use Rattle.cm_serial.proofs.OnceLaw.{once}
use Rattle.cm_serial.proofs.law.runs_end_once.Goals as goal

pub returns : goal.returns
returns c = λ words input ticks m printed a b d e first second. once (InstructionAt words) (image_is_one words) input ticks first second
