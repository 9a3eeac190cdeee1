use Rattle.cm_gen.proofs.ahead.LoopLaw.{jump_back, loop_first}
use Rattle.cm_gen.proofs.ahead_law.jumps_back_are_paid.Goals as goal

pub returns-clause-back : goal.returns-clause-back
returns-clause-back c = jump_back

pub returns-clause-first : goal.returns-clause-first
returns-clause-first c = loop_first
