-- How a run ends.
use Rattle.std.specs.Prelude.{ℕ, ℤ, Option, List}
use Rattle.cm_syntax.specs.Trap.{Trap}

-- By a value, with the numbers that were printed and the ticks that were taken; a call of a `void` function has none.
-- By a trap, with the same. Or spent: it would take more ticks than there are, and then nothing is printed.
pub data End : Type 0 where
  Done : (output : List ℤ) → (value : Option ℤ) → (ticks : ℕ) → End
  Trapped : (output : List ℤ) → Trap → (ticks : ℕ) → End
  Spent : End
