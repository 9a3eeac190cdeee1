use Rattle.std.proofs.Common.{rules}
use Rattle.cm_board.proofs.CalledLaw.{arrives_at}
use Rattle.cm_board.proofs.ReadingLaw.{arrived_at, last_or_left}
use Rattle.cm_board.proofs.board.Board.arrive.Goals as goal

pub fetch_sub-requires : goal.fetch_sub-requires
fetch_sub-requires g c = (c.requires.table, search rules, arrives_at _ _ _ _ _ _ _ c.requires.child)

pub returns-clause-seat : goal.returns-clause-seat
returns-clause-seat g c = last_or_left _ _ _ _ (arrived_at _ _ _ _ c.requires.child c.fetch_sub.ensures.2).1
