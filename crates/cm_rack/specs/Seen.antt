-- What contracts see of a rack, its hands and its tickets.
use Rattle.std.specs.Prelude.{ℕ, List, Option}
use Rattle.atomic_table.specs.Seated.{TableId}
use Rattle.cm_rack.specs.Views.{log_of, tag_in}
use Rattle.cm_rack.specs.declared.racked.Racked.{Ghosts}
use Rattle.cm_rack.specs.declared.ticket.Rack.{Rack}
use Rattle.cm_rack.specs.declared.ticket.Hand.{Hand}
use Rattle.cm_rack.specs.declared.ticket.Ticket.{Ticket}

-- the tag of the task that lies under the ticket
abbrev pub tag_of : {G : Type 0} → Ticket G → Option G
tag_of ticket = tag_in ticket.badge.views

-- the rack that a ticket is of
abbrev pub ticket_rack : {G : Type 0} → Ticket G → TableId
ticket_rack ticket = ticket.badge.table_id

module _ {T G : Type 0} where
  -- which rack it is
  abbrev pub rack_of : Rack T G → TableId
  rack_of rack = rack.table.shared.table_id

  -- how many places it has
  abbrev pub places_of : Rack T G → ℕ
  places_of rack = rack.table.shared.table_id.slots

  -- the rack that a hand is of
  abbrev pub hand_rack : {g : Ghosts T G} → Hand T G g → TableId
  hand_rack hand = hand.seat.table_id

  -- what the puts of a hand found: the place and the number of its word, 0 where it was empty, the latest first
  abbrev pub found_by : {g : Ghosts T G} → Hand T G g → List (ℕ × ℕ)
  found_by hand = log_of hand.seat.me
