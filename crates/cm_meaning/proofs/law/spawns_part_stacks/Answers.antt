use Rattle.cm_meaning.proofs.RunLaw.{parts_stack}
use Rattle.cm_meaning.proofs.law.spawns_part_stacks.Goals as goal

pub returns : goal.returns
returns c = parts_stack
