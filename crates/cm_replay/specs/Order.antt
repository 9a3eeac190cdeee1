-- What the order of a generated schedule gives.
use Rattle.std.specs.Prelude.{ℕ, ◌+◌}
use Rattle.cm_replay.specs.Pair as pair
use Rattle.cm_replay.specs.declared.generated.Order.{Order}
use Rattle.cm_replay.specs.declared.generated.Order.TheVariants.{RoundRobin, Drawn}

-- how many workers there are
abbrev pub order_workers : Order → ℕ
order_workers (RoundRobin rounds) = rounds.workers
order_workers (Drawn draws) = draws.workers

-- the worker and the victim of a turn that is to come
abbrev pub order_pair : Order → ℕ → ℕ × ℕ
order_pair (RoundRobin rounds) turn = pair.round_robin rounds.workers (rounds.turn + turn)
order_pair (Drawn draws) turn = pair.drawn draws.generator draws.workers turn
