use Rattle.std.proofs.Common.{◌≡◌, ◌+◌, length, drop}
use Rattle.cm_syntax.specs.Lexer.{front, in_line}
use Rattle.cm_reader.proofs.scan.line_length.Given as goal

-- with the bytes that are left, those of the line come to the whole
abbrev pub invariant-loop-index : goal.invariant-loop-index
invariant-loop-index l = l.index + length (front in_line (drop l.index l.bytes)) ≡ 2 + length (front in_line (drop 2 l.bytes))
