use Rattle.std.proofs.Common.{◌≡◌, length}
use Rattle.cm_syntax.specs.Parser.{State, start}
use Rattle.cm_reader.specs.Read.{answer}
use Rattle.cm_reader.proofs.parser.parse.Given as goal

abbrev pub invariant-loop-rest : goal.invariant-loop-rest
invariant-loop-rest l = answer l.length start l.tokens ≡ answer l.length (State.functions_next l.functions) l.rest

abbrev pub decreases-loop-rest : goal.decreases-loop-rest
decreases-loop-rest l = length l.rest
