use Rattle.std.proofs.Common.{◌≡◌, ◌+◌, length, drop}
use Rattle.cm_syntax.specs.Text.{is_word_byte}
use Rattle.cm_syntax.specs.Lexer.{front}
use Rattle.cm_reader.proofs.scan.run_length.Given as goal

-- with the bytes that are left, those that passed come to the whole
abbrev pub invariant-loop-index : goal.invariant-loop-index
invariant-loop-index l = l.index + length (front is_word_byte (drop l.index l.bytes)) ≡ length (front is_word_byte l.bytes)
