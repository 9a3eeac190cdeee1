use Rattle.std.proofs.Common.{◌≡◌, ◌++◌}
use Rattle.cm_big.specs.Source.{call_lines}
use Rattle.cm_big.proofs.big.put_calls.Given as goal

abbrev pub invariant-loop-index : goal.invariant-loop-index
invariant-loop-index l = l.source ≡ l.initial.source ++ call_lines l.index-counter
