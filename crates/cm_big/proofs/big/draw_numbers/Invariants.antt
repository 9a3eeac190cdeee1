use Rattle.std.proofs.Common.{◌≡◌}
use Rattle.cm_big.specs.Draw.{value_after}
use Rattle.cm_big.specs.Source.{numbers_from}
use Rattle.cm_big.proofs.big.draw_numbers.Given as goal

abbrev pub invariant-loop-index : goal.invariant-loop-index
invariant-loop-index l =
    (l.numbers ≡ numbers_from l.initial.generator l._index) × (l.generator ≡ value_after l._index l.initial.generator)
