-- The ranges of what a run may take and of its input.
use Rattle.std.specs.Prelude.{ℕ, ◌≤◌}
use Rattle.cm_maps.specs.Pages.{IsPage}
use Rattle.cm_meaning.specs.Meaning.{Limits}

-- the most numbers of an input
abbrev pub max_input_numbers : ℕ
max_input_numbers = 65536

-- the most words of a stack: 256 pages of 4,096 bytes
abbrev pub max_stack_words : ℕ
max_stack_words = 262144

-- limits as the program takes them
pub record HasRanges (limits : Limits) : Type 0 where
  pub some_ticks : 1 ≤ limits.ticks
  pub most_ticks : limits.ticks ≤ 100000000
  pub some_stack : 16 ≤ limits.stack
  pub most_stack : limits.stack ≤ 256
  pub page : IsPage limits.page
