-- What contracts see of owners, children and leaves: their board, its home and number of pages, the asks, and what their
-- steps found.
use Rattle.std.specs.Prelude.{ℕ, List, Option}
use Rattle.std.specs.Arc.{arc_value}
use Rattle.cm_board.specs.declared.board.Board.{Board}
use Rattle.cm_board.specs.declared.owner.Arrived.{Arrived}
use Rattle.cm_board.specs.declared.owner.Arrived.TheVariants.{Earlier, Last}
use Rattle.cm_board.specs.declared.owner.Child.{Child}
use Rattle.cm_board.specs.declared.owner.Leave.{Leave}
use Rattle.cm_board.specs.declared.owner.Owner.{Owner}
use Rattle.cm_board.specs.Slots.{lead_at, log_at}

module _ {J H A B T S : Type 0} where
  -- the board of an owner
  abbrev pub board_of : Owner J H A B T S → Board J H A B T S
  board_of owner = arc_value owner.board

  -- the board of a child
  abbrev pub child_board_of : Child J H A B T S → Board J H A B T S
  child_board_of child = arc_value child.board

  -- the board of a leave
  abbrev pub leave_board_of : Leave J H A B T S → Board J H A B T S
  leave_board_of leave = arc_value leave.board

  -- the home of an owner's scope
  abbrev pub home_of : Owner J H A B T S → H
  home_of owner = (board_of owner).table.shared.key.home

  -- the number of pages of an owner's scope
  abbrev pub pages_of : Owner J H A B T S → ℕ
  pages_of owner = (board_of owner).table.shared.key.pages

  -- the home of a child's scope
  abbrev pub child_home_of : Child J H A B T S → H
  child_home_of child = (child_board_of child).table.shared.key.home

  -- the number of pages of a child's scope
  abbrev pub child_pages_of : Child J H A B T S → ℕ
  child_pages_of child = (child_board_of child).table.shared.key.pages

  -- the home of a leave's scope
  abbrev pub leave_home_of : Leave J H A B T S → H
  leave_home_of leave = (leave_board_of leave).table.shared.key.home

  -- the number of pages of a leave's scope
  abbrev pub leave_pages_of : Leave J H A B T S → ℕ
  leave_pages_of leave = (leave_board_of leave).table.shared.key.pages

  -- the ask of each place in use
  abbrev pub asks_of : Owner J H A B T S → List (Option A)
  asks_of owner = (lead_at owner.seat.me).asks

  -- what the takes and the arrival of an owner found: the word and the number, the latest first
  abbrev pub log_of : Owner J H A B T S → List (ℕ × ℕ)
  log_of owner = (lead_at owner.seat.me).log

  -- the same of a leave
  abbrev pub leave_log_of : Leave J H A B T S → List (ℕ × ℕ)
  leave_log_of leave = log_at leave.seat.me

  -- what holds of the leave, where others were still to arrive
  abbrev pub WhenEarlier : Arrived J H A B T S → (Leave J H A B T S → Type 0) → Type 0
  WhenEarlier (Earlier leave) P = P leave
  WhenEarlier (Last owner task) P = Unit {0}

  -- what holds of the owner and the task, where it was the last
  abbrev pub WhenLast : Arrived J H A B T S → (Owner J H A B T S → T → Type 0) → Type 0
  WhenLast (Earlier leave) P = Unit {0}
  WhenLast (Last owner task) P = P owner task
