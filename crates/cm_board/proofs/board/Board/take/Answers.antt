use Rattle.std.proofs.Common.{rules}
use Rattle.cm_board.proofs.CalledLaw.{takes_at, lays_at}
use Rattle.cm_board.proofs.ReadingLaw.{after_exchange, taken_at, slot_there}
use Rattle.cm_board.proofs.board.Board.take.Goals as goal

pub compare_exchange-requires : goal.compare_exchange-requires
compare_exchange-requires g c = (c.requires.table, search rules, takes_at _ _ _ _ _ _ _ _ c.requires.last.0)

pub exchange-load-requires : goal.exchange-load-requires
exchange-load-requires g c = let t = taken_at _ _ _ _ _ c.requires.last.0 c.compare_exchange.ensures.2 in
    (search rules, (_, slot_there _ _ _ _ t.1))

pub swap-requires : goal.swap-requires
swap-requires g c = let t = taken_at _ _ _ _ _ c.requires.last.0 c.compare_exchange.ensures.2 in
    (search rules, search rules, lays_at _ _ _ _ _ _ _ _ (search rules) (after_exchange _ _ _ _ _ _ t.1 c.exchange-load.ensures.3))
