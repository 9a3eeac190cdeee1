use Rattle.cm_gen.proofs.standing.first_machine_stands.Goals as goal
use Rattle.cm_isa.specs.Address.{InstructionAt}
use Rattle.cm_syntax.specs.Stack.{empty_stack}
use Rattle.cm_gen.proofs.images.BeginLaw.{begins}

pub returns : goal.returns
returns c = λ program form page limit input words left m compiled first. begins program form page limit input (InstructionAt words) compiled left m first empty_stack
