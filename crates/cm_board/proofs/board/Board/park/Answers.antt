use Rattle.std.proofs.Common.{rules}
use Rattle.cm_board.proofs.CalledLaw.{lifts_at, parks_at, arrives_parked_at}
use Rattle.cm_board.proofs.ReadingLaw.{after_exchange, lifted_at, parked_at}
use Rattle.cm_board.proofs.board.Board.park.Goals as goal

pub compare_exchange-requires : goal.compare_exchange-requires
compare_exchange-requires g c = (c.requires.table, search rules, lifts_at _ _ _ _ _ _ _ _ c.requires.owner.0)

pub swap-requires : goal.swap-requires
swap-requires g c = let t = lifted_at _ _ _ _ c.requires.owner.0 c.compare_exchange.ensures.2 in
    (search rules, search rules, parks_at _ _ _ _ _ _ _ _ _ c.requires.owner.1 c.requires.task (search rules) (after_exchange _ _ _ _ _ _ t c.exchange.ensures.3))

pub fetch_sub-requires : goal.fetch_sub-requires
fetch_sub-requires g c = let t = lifted_at _ _ _ _ c.requires.owner.0 c.compare_exchange.ensures.2 in
    let u = parked_at _ _ _ _ _ _ (after_exchange _ _ _ _ _ _ t c.exchange.ensures.3) c.swap.ensures.2 in
    (search rules, search rules, arrives_parked_at _ _ _ _ _ _ _ _ u)
