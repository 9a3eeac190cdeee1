-- The parts of a word, and signed numbers in two's complement.
use Rattle.std.specs.Prelude.{ℕ, ◌+◌, ◌-◌, ◌/◌, ◌%◌, ◌^◌, ℤ, pos, negsuc, ◌≤ℤ◌, ◌<ℤ◌, neg_ℤ, nat_lt, if◌then◌else◌}

-- bits `low` to `high` of a word, as a number
abbrev pub bits : (high low : ℕ) → ℕ → ℕ
bits high low word = word / 2 ^ low % 2 ^ (high + 1 - low)

-- the signed number that k bits stand for, in two's complement
abbrev pub signed : (k : ℕ) → ℕ → ℤ
signed k n = if nat_lt n (2 ^ (k - 1)) then pos n else negsuc (2 ^ k - 1 - n)

-- the number fits k bits, in two's complement
pub record IsSigned (k : ℕ) (z : ℤ) : Type 0 where
  pub least : neg_ℤ (pos (2 ^ (k - 1))) ≤ℤ z
  pub most : z <ℤ pos (2 ^ (k - 1))

-- the number that is so far below zero
abbrev pub minus : ℕ → ℤ
minus n = neg_ℤ (pos n)
