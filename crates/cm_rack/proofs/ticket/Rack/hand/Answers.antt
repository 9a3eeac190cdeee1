use Rattle.std.proofs.Common.{rules}
use Rattle.cm_rack.proofs.CalledLaw.{enters_at}
use Rattle.cm_rack.proofs.ticket.Rack.hand.Goals as goal

pub split_seat-requires : goal.split_seat-requires
split_seat-requires g c = (search rules, search rules, enters_at _ 0 _ _ c.requires.idle)
