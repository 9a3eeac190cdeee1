use Rattle.std.proofs.Common.{rules}
use Rattle.cm_board.proofs.CalledLaw.{joins_at, uncounts_at}
use Rattle.cm_board.proofs.ReadingLaw.{backed_at, uncounted_at}
use Rattle.cm_board.proofs.board.Board.take_back.Goals as goal

pub join_seat-requires : goal.join_seat-requires
join_seat-requires g c = (c.requires.table.0, c.requires.table.1, search rules, search rules, joins_at _ _ _ _ 0 _ _ _ _ _ _ _ c.requires.owner.0 c.requires.child)

pub fetch_sub-requires : goal.fetch_sub-requires
fetch_sub-requires g c = (search rules, search rules, uncounts_at _ _ _ _ _ _ _ _ _ _ c.requires.owner.1 (backed_at _ _ _ _ _ _ c.requires.owner.0 c.requires.child c.join_seat.ensures.2))

pub returns-clause-seat : goal.returns-clause-seat
returns-clause-seat g c = (uncounted_at _ _ _ _ _ _ _ (backed_at _ _ _ _ _ _ c.requires.owner.0 c.requires.child c.join_seat.ensures.2) c.fetch_sub.ensures.2).1

pub returns-clause-entry : goal.returns-clause-entry
returns-clause-entry g c = (uncounted_at _ _ _ _ _ _ _ (backed_at _ _ _ _ _ _ c.requires.owner.0 c.requires.child c.join_seat.ensures.2) c.fetch_sub.ensures.2).0
