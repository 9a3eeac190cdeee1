-- What contracts see of the two ends of a deque.
use Rattle.std.specs.Prelude.{ℕ, Option, List, take}
use Rattle.std.specs.declared.alloc.Global.{Global}
use Rattle.atomic_blocks.specs.Lent.{RowsId}
use Rattle.crossbeam_deque.specs.Handles.{view, worker_deque, worker_view, stealer_deque}
use Rattle.cm_deques.specs.declared.ends.Deque.{Deque}
use Rattle.cm_deques.specs.declared.ends.Side.{Side}

module _ {T H : Type 0} where
  -- which deque it is
  abbrev pub deque_of : Deque T H → RowsId × Global
  deque_of deque = worker_deque deque.worker

  -- the home in which the tasks lie
  abbrev pub home_of : Deque T H → Option H
  home_of deque = (worker_view deque.worker).home

  -- what was pushed since the deque was last known to be empty, and not popped: the last one first
  abbrev pub pushed_in : Deque T H → List T
  pushed_in deque = take deque.count (worker_view deque.worker).pushed

  -- how many pushes can't be refused
  abbrev pub sure_of : Deque T H → ℕ
  sure_of deque = deque.sure

  -- which deque a thief's end is of
  abbrev pub side_deque : Side T H → RowsId × Global
  side_deque side = stealer_deque side.stealer

  -- the home of that deque
  abbrev pub side_home : Side T H → Option H
  side_home side = (view side.pass).home

  -- what this end stole, the last one first
  abbrev pub stolen_by : Side T H → List T
  stolen_by side = (view side.pass).stolen
