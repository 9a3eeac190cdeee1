-- What holds of places at equal distances.
use Rattle.std.specs.Prelude.{ℕ, zero, suc, ◌+◌, Bool, true, ◌&&◌, List}
use Rattle.cm_words.specs.Held.{Held, cell}

-- of `count` places from `at` on, each `step` behind the one before it
abbrev pub every : (Held → Bool) → (step count at : ℕ) → List Held → Bool
every p step zero at cells = true
every p step (suc count) at cells = p (cell cells at) && every p step count (at + step) cells
