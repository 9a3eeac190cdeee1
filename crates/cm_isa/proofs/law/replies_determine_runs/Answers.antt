use Rattle.cm_isa.specs.Address.{InstructionAt}
use Rattle.cm_isa.proofs.Image.{image_is_one}
use Rattle.cm_isa.proofs.Run.{call_is_no_step, runs_are_one}
use Rattle.cm_isa.proofs.law.replies_determine_runs.Goals as goal

pub returns-clause-run : goal.returns-clause-run
returns-clause-run c = λ image. runs_are_one (InstructionAt image) (image_is_one image)

pub returns-clause-stop : goal.returns-clause-stop
returns-clause-stop c = λ image m next asks step. call_is_no_step (InstructionAt image) (image_is_one image) m next step asks
