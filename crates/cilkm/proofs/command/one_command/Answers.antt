use Rattle.cilkm.proofs.AskedLaw.{one_command}
use Rattle.cilkm.proofs.command.one_command.Goals as goal

pub returns : goal.returns
returns c = one_command
