use Rattle.std.proofs.Common.{◌≡◌, ◌+◌, length, drop}
use Rattle.cm_syntax.specs.Lexer.{has_end, before_end}
use Rattle.cm_reader.proofs.scan.block_length.Given as goal

-- no end stands where the loop has looked
abbrev pub invariant-loop-index : goal.invariant-loop-index
invariant-loop-index l =
    (has_end (drop l.index l.bytes) ≡ has_end (drop 2 l.bytes)) × (l.index + length (before_end (drop l.index l.bytes)) ≡ 2 + length (before_end (drop 2 l.bytes)))
