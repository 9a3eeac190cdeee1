-- The values of the generator, and its draws.
use Rattle.std.specs.Prelude.{ℕ, zero, suc, ◌+◌, ◌*◌, ◌/◌, ◌%◌, ◌^◌}

-- the value after this one
abbrev pub next_value : ℕ → ℕ
next_value value = (value * 1664525 + 1013904223) % 2 ^ 32

-- the value after so many more
abbrev pub value_after : ℕ → ℕ → ℕ
value_after zero value = value
value_after (suc count) value = value_after count (next_value value)

-- a draw, counted from 0 behind a value
abbrev pub draw : ℕ → ℕ → ℕ
draw index value = value_after (suc index) value / 65536
