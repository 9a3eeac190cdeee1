use Rattle.std.proofs.Common.{rules}
use Rattle.cm_rack.proofs.TicketLaw.{ticket_views, seated}
use Rattle.cm_rack.proofs.ticket.Rack.take.Goals as goal

pub lift-requires : goal.lift-requires
lift-requires g c = let t = ticket_views _ _ c.args.ticket.named in record {
  table = search rules;
  ticket = (search rules, (t.0, seated _ _ _ _ t.1 c.into_seat-seat.ensures.2 c.into_seat-seat.ensures.3));
}
