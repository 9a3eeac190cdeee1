-- The strand that a run starts with.
use Rattle.std.specs.Prelude.{ℕ, []}
use Rattle.cm_gen.specs.Run.{start_registers}
use Rattle.cm_gen.specs.Part.{table_word}
use Rattle.cm_strand.specs.Owned.{Owned}
use Rattle.cm_strand.specs.Strand.{Strand, going}

-- at the word of main in the table, with these words
abbrev pub root_of : (main account ticks : ℕ) → Owned → Strand
root_of main account ticks words = record {
  registers = start_registers account ticks;
  counter = table_word main;
  start = ticks;
  log = [];
  scopes = [];
  course = going;
  words = words;
}
