-- Counts of calls and of faults, which a u64 holds, and which stop at its last value.
use Rattle.std.specs.Prelude.{ℕ, ◌+◌, ◌-◌, ◌^◌, ◌≤◌, min, Bool, List, ◌==◌}
use Rattle.std.specs.List.{list_any}

-- the count after one more call or fault: it stays at the last value of a u64
abbrev pub next_count : ℕ → ℕ
next_count count = min (count + 1) (2 ^ 64 - 1)

-- the count rose: it is higher than before, or it stands at the last value of a u64
abbrev pub Rose : ℕ → ℕ → Type 0
Rose before now = min (before + 1) (2 ^ 64 - 1) ≤ now

-- the call after so many calls is among these numbers of calls, counted from 1
abbrev pub is_next_among : List ℕ → ℕ → Bool
is_next_among numbers calls = list_any (λ number. number == calls + 1) numbers
