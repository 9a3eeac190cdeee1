use Rattle.std.proofs.Common.{length}
use Rattle.cm_gen.proofs.function_code.+parameters.Given as goal

-- each call is for fewer parameters
abbrev pub decreases-parameters : goal.decreases-parameters
decreases-parameters l = length l.list.now
