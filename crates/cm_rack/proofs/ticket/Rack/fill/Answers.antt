use Rattle.std.proofs.Common.{rules}
use Rattle.cm_rack.proofs.CalledLaw.{tries_put_at, fills_at, parts_at, put_tried_at, filled_at, after_exchange, slot_there}
use Rattle.cm_rack.proofs.ticket.Rack.fill.Goals as goal

pub compare_exchange-found-requires : goal.compare_exchange-found-requires
compare_exchange-found-requires g c = (c.requires.table, search rules, tries_put_at _ _ _ _ _ c.requires.place c.requires.idle)

pub exchange-requires : goal.exchange-requires
exchange-requires g c = let t = put_tried_at _ _ _ _ c.requires.idle c.compare_exchange-found.ensures.2 in let u = t.0 c.if-found-ne0.false in
    (search rules, (_, slot_there _ _ _ _ u))

pub swap-requires : goal.swap-requires
swap-requires g c = let t = put_tried_at _ _ _ _ c.requires.idle c.compare_exchange-found.ensures.2 in let u = t.0 c.if-found-ne0.false in
    (search rules, search rules, fills_at _ _ _ _ _ _ _ (after_exchange _ _ _ _ _ _ u c.exchange.ensures.3))

pub split_seat-requires : goal.split_seat-requires
split_seat-requires g c = let t = put_tried_at _ _ _ _ c.requires.idle c.compare_exchange-found.ensures.2 in let u = t.0 c.if-found-ne0.false in
    let f = filled_at _ _ _ _ _ _ _ (after_exchange _ _ _ _ _ _ u c.exchange.ensures.3) c.swap.ensures.2 in
    (search rules, search rules, parts_at _ 0 _ _ _ _ _ f)
