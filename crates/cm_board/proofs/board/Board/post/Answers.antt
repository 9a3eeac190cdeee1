use Rattle.std.proofs.Common.{rules}
use Rattle.cm_board.proofs.CalledLaw.{tries_post_at, posts_at}
use Rattle.cm_board.proofs.ReadingLaw.{after_exchange, slot_there, post_tried_at}
use Rattle.cm_board.proofs.board.Board.post.Goals as goal

pub compare_exchange-found-requires : goal.compare_exchange-found-requires
compare_exchange-found-requires g c = (c.requires.table, search rules, tries_post_at _ _ _ _ _ _ _ _ _ c.requires.slot c.requires.owner)

pub exchange-requires : goal.exchange-requires
exchange-requires g c = let t = post_tried_at _ _ _ _ _ c.requires.owner c.compare_exchange-found.ensures.2 in let u = t.0 c.if-found-ne0.false in
    (search rules, (_, slot_there _ _ _ _ u))

pub swap-requires : goal.swap-requires
swap-requires g c = let t = post_tried_at _ _ _ _ _ c.requires.owner c.compare_exchange-found.ensures.2 in let u = t.0 c.if-found-ne0.false in
    (search rules, search rules, posts_at _ _ _ _ _ _ _ _ _ _ c.requires.surplus (search rules) (after_exchange _ _ _ _ _ _ u c.exchange.ensures.3))
