use Rattle.std.proofs.Common.{rules}
use Rattle.cm_board.proofs.CalledLaw.{tries_at, empties_at}
use Rattle.cm_board.proofs.ReadingLaw.{after_exchange, tried_at, slot_there}
use Rattle.cm_board.proofs.board.Board.collect.Goals as goal

pub compare_exchange-found-requires : goal.compare_exchange-found-requires
compare_exchange-found-requires g c = (c.requires.table, search rules, tries_at _ _ _ _ _ _ _ _ _ _ c.requires.place.1.1 c.requires.owner)

pub exchange-load-requires : goal.exchange-load-requires
exchange-load-requires g c = let t = tried_at _ _ _ _ _ _ c.requires.owner c.compare_exchange-found.ensures.2 in let u = t.0 c.if-found-ne2.false in
    (search rules, (_, slot_there _ _ _ _ u.4))

pub swap-requires : goal.swap-requires
swap-requires g c = let t = tried_at _ _ _ _ _ _ c.requires.owner c.compare_exchange-found.ensures.2 in let u = t.0 c.if-found-ne2.false in
    (search rules, search rules, empties_at _ _ _ _ _ _ _ _ _ _ (after_exchange _ _ _ _ _ _ u.4 c.exchange-load.ensures.3))
