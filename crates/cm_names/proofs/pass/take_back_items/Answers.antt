use Rattle.cm_names.proofs.ScopeLaw.{items_step, items_end}
use Rattle.cm_names.proofs.pass.take_back_items.Goals as goal

pub loop-item-preserved : goal.loop-item-preserved
loop-item-preserved c x = items_step x _ _ _ _ _ _ c.loop-item-test.true c.item-item.is (c.loop-item.invariant x) (c.pop.ensures.rest x)

pub returns : goal.returns
returns c x = items_end x _ _ _ _ c.loop-item-test.false (c.loop-item.invariant x)
