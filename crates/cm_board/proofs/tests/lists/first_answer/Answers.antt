use Rattle.std.proofs.Common.{arith}
use Rattle.cm_board.proofs.tests.lists.first_answer.Goals as goal

pub collect-requires : goal.collect-requires
collect-requires c = record { used = (omega arith, (_, c.requires.1)) }
