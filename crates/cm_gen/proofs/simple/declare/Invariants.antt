use Rattle.std.proofs.Common.{◌≡◌, ◌≤◌, ◌++◌, drop, length}
use Rattle.cm_gen.specs.Statement.{items_code}
use Rattle.cm_gen.proofs.simple.declare.Given as goal

-- the code of the items from this one on stands before what there was
abbrev pub invariant-loop-at : goal.invariant-loop-at
invariant-loop-at l = (l.code ≡ items_code l.layout (drop l.at l.items) ++ l.fn.code) × (l.at ≤ length l.items)

-- each turn is for the item before
abbrev pub decreases-loop-at : goal.decreases-loop-at
decreases-loop-at l = l.at
