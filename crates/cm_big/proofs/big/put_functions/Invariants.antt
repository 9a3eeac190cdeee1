use Rattle.std.proofs.Common.{◌≡◌, ◌*◌, ◌++◌}
use Rattle.cm_big.specs.Draw.{value_after}
use Rattle.cm_big.specs.Source.{function_lines}
use Rattle.cm_big.proofs.big.put_functions.Given as goal

abbrev pub invariant-loop-index : goal.invariant-loop-index
invariant-loop-index l =
    (l.source ≡ l.initial.source ++ function_lines l.initial.generator l.index-counter)
    × (l.generator ≡ value_after (2 * l.index-counter) l.initial.generator)
