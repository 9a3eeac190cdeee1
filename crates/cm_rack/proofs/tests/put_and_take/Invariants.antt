use Rattle.std.proofs.Common.{◌≡◌}
use Rattle.cm_rack.proofs.tests.put_and_take.Given as goal

abbrev pub invariant-loop-value : goal.invariant-loop-value
invariant-loop-value l = (l.hand.seat.table_id ≡ l.fn.hand.seat.table_id) × (l.rack ≡ l.fn.rack)
