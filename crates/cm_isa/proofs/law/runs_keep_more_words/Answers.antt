use Rattle.cm_isa.specs.Address.{InstructionAt}
use Rattle.cm_isa.proofs.Run.{larger_has_more, runs_keep_map, runs_beside, runs_keep_fixed}
use Rattle.cm_isa.proofs.law.runs_keep_more_words.Goals as goal

pub returns-clause-beside : goal.returns-clause-beside
returns-clause-beside c = λ image. runs_beside (InstructionAt image)

pub returns-clause-read_only : goal.returns-clause-read_only
returns-clause-read_only c = λ image. runs_keep_fixed (InstructionAt image)

pub returns-clause-larger : goal.returns-clause-larger
returns-clause-larger c = larger_has_more

pub returns-clause-map : goal.returns-clause-map
returns-clause-map c = λ image labels m last address run. runs_keep_map (InstructionAt image) labels m last run address
