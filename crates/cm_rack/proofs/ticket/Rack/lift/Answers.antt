use Rattle.std.proofs.Common.{rules}
use Rattle.cm_rack.proofs.CalledLaw.{tries_take_at, empties_at, take_tried_at, emptied_at, after_exchange, slot_there}
use Rattle.cm_rack.proofs.ticket.Rack.lift.Goals as goal

pub compare_exchange-requires : goal.compare_exchange-requires
compare_exchange-requires g c = (c.requires.table, search rules, tries_take_at _ _ _ _ _ _ c.requires.ticket.1.1)

pub exchange-load-requires : goal.exchange-load-requires
exchange-load-requires g c = let u = take_tried_at _ _ _ _ _ _ c.requires.ticket.1.1 c.compare_exchange.ensures.2 in (search rules, (_, slot_there _ _ _ _ u.1))

pub swap-requires : goal.swap-requires
swap-requires g c = let u = take_tried_at _ _ _ _ _ _ c.requires.ticket.1.1 c.compare_exchange.ensures.2 in
    (search rules, search rules, empties_at _ _ _ _ _ (after_exchange _ _ _ _ _ _ u.1 c.exchange-load.ensures.3))

pub returns-clause-seat : goal.returns-clause-seat
returns-clause-seat g c = let u = take_tried_at _ _ _ _ _ _ c.requires.ticket.1.1 c.compare_exchange.ensures.2 in
    emptied_at _ _ _ _ (after_exchange _ _ _ _ _ _ u.1 c.exchange-load.ensures.3) c.swap.ensures.2
