use Rattle.std.proofs.Common.{◌≡◌, ◌-◌, ◌≤◌, [], All, vec_len}
use Rattle.cm_rack.specs.Seen.{found_by}
use Rattle.cm_rack.specs.declared.view.View.TheVariants.{Idle}
use Rattle.cm_rack.proofs.making.rack.Given as goal

abbrev pub invariant-loop-rack : goal.invariant-loop-rack
invariant-loop-rack g l = (vec_len l.all ≤ l.count) × (l.seat.table_id ≡ l.rack.table.shared.table_id) × (l.seat.me ≡ (Idle [], [])) × All (λ h. h.seat.table_id ≡ l.rack.table.shared.table_id) l.all.items × All (λ h. found_by h ≡ []) l.all.items

abbrev pub decreases-loop-rack : goal.decreases-loop-rack
decreases-loop-rack g l = l.count - vec_len l.all
