use Rattle.cm_isa.specs.Address.{InstructionAt}
use Rattle.cm_isa.proofs.Run.{runs_join, runs_split}
use Rattle.cm_isa.proofs.law.runs_join_and_split.Goals as goal

pub returns-clause-join : goal.returns-clause-join
returns-clause-join c = λ image. runs_join (InstructionAt image)

pub returns-clause-split : goal.returns-clause-split
returns-clause-split c = λ image. runs_split (InstructionAt image)
