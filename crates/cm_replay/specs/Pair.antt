-- The worker and the victim of each turn of a schedule, by turns counted from 0.
use Rattle.std.specs.Prelude.{ℕ, ◌+◌, ◌*◌, ◌/◌, ◌%◌, ◌<◌, ◌≤◌, ◌==◌, if◌then◌else◌, List, slice_index_or}
use Rattle.std.specs.List.{All}
use Rattle.cm_big.specs.Draw.{draw}

-- how many workers there may be
abbrev pub IsWorkerCount : ℕ → Type 0
IsWorkerCount workers = (1 ≤ workers) × (workers ≤ 16)

-- the pairs name workers
abbrev pub AreBelow : ℕ → List (ℕ × ℕ) → Type 0
AreBelow workers pairs = All (λ pair. (pair.0 < workers) × (pair.1 < workers)) pairs

-- round robin: each worker in turn, and for each round of the workers the next victim
abbrev pub round_robin : ℕ → ℕ → ℕ × ℕ
round_robin workers turn = (turn % workers, turn / workers % workers)

-- two draws a turn behind a value of the generator: the worker's, and then the victim's
abbrev pub drawn : ℕ → ℕ → ℕ → ℕ × ℕ
drawn value workers turn = (draw (2 * turn) value % workers, draw (2 * turn + 1) value % workers)

-- the schedule of a seed
abbrev pub generated : ℕ → ℕ → ℕ → ℕ × ℕ
generated seed workers turn = if seed == 0 then round_robin workers turn else drawn seed workers turn

-- the listed pairs, and then round robin
abbrev pub listed : List (ℕ × ℕ) → ℕ → ℕ → ℕ × ℕ
listed pairs workers turn = slice_index_or pairs turn (round_robin workers turn)
