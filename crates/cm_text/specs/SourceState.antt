-- A source over bytes in memory, and what each read does to it.
use Rattle.std.specs.Prelude.{ℕ, Bool, List, drop, length, min, max, if◌then◌else◌}
use Rattle.cm_text.specs.Count.{next_count, is_next_among}

-- the bytes that are left, the most that a read gives, the numbers of the reads that fail,
-- how many reads were made, and how many of them failed
pub record SourceState : Type 0 where
  pub left : List ℕ
  pub give : ℕ
  pub fails : List ℕ
  pub calls : ℕ
  pub faults : ℕ

-- a source that nobody has read yet
abbrev pub fresh_source : List ℕ → ℕ → List ℕ → SourceState
fresh_source bytes give fails = record { left = bytes; give = give; fails = fails; calls = 0; faults = 0 }

-- the next read fails
abbrev pub is_read_failing : SourceState → Bool
is_read_failing source = is_next_among source.fails source.calls

-- how many bytes the next read gives: what fits, what is left, and at most `give`, which counts as 1 where it is 0
abbrev pub given_count : SourceState → ℕ → ℕ
given_count source room = min (min (max source.give 1) room) (length source.left)

-- the source after a read into so much room
abbrev pub after_read : SourceState → ℕ → SourceState
after_read source room =
    if is_read_failing source
    then record source { calls = next_count source.calls; faults = next_count source.faults }
    else record source { left = drop (given_count source room) source.left; calls = next_count source.calls }
