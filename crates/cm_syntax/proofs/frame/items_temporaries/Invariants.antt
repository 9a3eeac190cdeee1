use Rattle.std.proofs.Common.{◌≡◌, max, drop}
use Rattle.cm_syntax.specs.Frame as frame
use Rattle.cm_syntax.specs.Frame.{capped}
use Rattle.cm_syntax.proofs.frame.items_temporaries.Given as goal

-- with the items that are left, what was found comes to the whole
abbrev pub invariant-loop-item : goal.invariant-loop-item
invariant-loop-item g l =
    max l.most (capped (frame.items_temporaries (drop l.item-index l.items))) ≡ capped (frame.items_temporaries l.items)
