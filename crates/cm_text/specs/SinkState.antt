-- A sink over memory, and what each write does to it.
use Rattle.std.specs.Prelude.{ℕ, ◌-◌, ◌++◌, ◌&&◌, ◌||◌, Bool, List, [], length, min, max, nat_lt, nat_le, if◌then◌else◌, take as front_of}
use Rattle.cm_text.specs.Count.{next_count, is_next_among}

-- the bytes that were taken, how many there is room for, the most that a write takes,
-- the numbers of the writes that fail, how many writes were made, and how many of them failed
pub record SinkState : Type 0 where
  pub taken : List ℕ
  pub room : ℕ
  pub most : ℕ
  pub fails : List ℕ
  pub calls : ℕ
  pub faults : ℕ

-- a sink that nobody has written to yet
abbrev pub fresh_sink : ℕ → ℕ → List ℕ → SinkState
fresh_sink room most fails = record { taken = []; room = room; most = most; fails = fails; calls = 0; faults = 0 }

-- the next write fails at this piece: by its number, or since the piece isn't empty and no room is left
abbrev pub is_write_failing : SinkState → List ℕ → Bool
is_write_failing sink piece =
    is_next_among sink.fails sink.calls || (nat_lt 0 (length piece) && nat_le sink.room (length sink.taken))

-- how many bytes the next write takes: what there is, what fits, and at most `most`, which counts as 1 where it is 0
abbrev pub taken_count : SinkState → List ℕ → ℕ
taken_count sink piece = min (min (max sink.most 1) (length piece)) (sink.room - length sink.taken)

-- the sink after a write of this piece
abbrev pub after_write : SinkState → List ℕ → SinkState
after_write sink piece =
    if is_write_failing sink piece
    then record sink { calls = next_count sink.calls; faults = next_count sink.faults }
    else record sink { taken = sink.taken ++ front_of (taken_count sink piece) piece; calls = next_count sink.calls }
