use Rattle.std.proofs.Common.{rules}
use Rattle.cm_board.proofs.CalledLaw.{tries_fetch_at, fetches_at}
use Rattle.cm_board.proofs.ReadingLaw.{after_exchange, slot_there, fetch_tried_at}
use Rattle.cm_board.proofs.board.Board.fetch.Goals as goal

pub compare_exchange-found-requires : goal.compare_exchange-found-requires
compare_exchange-found-requires g c = (c.requires.table, search rules, tries_fetch_at _ _ _ _ _ _ _ _ _ c.requires.slot c.requires.leaver)

pub exchange-load-requires : goal.exchange-load-requires
exchange-load-requires g c = let t = fetch_tried_at _ _ _ _ _ _ _ c.requires.leaver c.compare_exchange-found.ensures.2 in let u = t.0 c.if-found-ne2.false in
    (search rules, (_, slot_there _ _ _ _ u.1))

pub swap-requires : goal.swap-requires
swap-requires g c = let t = fetch_tried_at _ _ _ _ _ _ _ c.requires.leaver c.compare_exchange-found.ensures.2 in let u = t.0 c.if-found-ne2.false in
    (search rules, search rules, fetches_at _ _ _ _ _ _ _ _ _ (search rules) (after_exchange _ _ _ _ _ _ u.1 c.exchange-load.ensures.3))
