use Rattle.std.proofs.Common.{ap}
use Rattle.cm_syntax.specs.Frame as frame
use Rattle.cm_syntax.proofs.FrameLaw.{next, most_of_next}
use Rattle.cm_syntax.proofs.frame.items_temporaries.Goals as goal

pub loop-item-preserved : goal.loop-item-preserved
loop-item-preserved g c =
    let part = ap frame.items_temporaries (next _ _ _ c.loop-item-test.true c.item-item.is) in
    most_of_next _ _ _ _ _ _ _ part c.optional_temporaries.ensures c.max-most.ensures c.loop-item.invariant
