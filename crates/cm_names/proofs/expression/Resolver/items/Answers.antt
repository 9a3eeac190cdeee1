use Rattle.cm_names.proofs.StepLaw.{items_init, items_step, items_end}
use Rattle.cm_names.proofs.expression.Resolver.items.Goals as goal

pub loop-item-init : goal.loop-item-init
loop-item-init c = items_init c.args.self.now.functions.now c.args.self.now.function.now c.args.base c.args.items.now c.args.pass.now _ c.new-resolved.ensures

pub loop-item-preserved : goal.loop-item-preserved
loop-item-preserved c =
    items_step c.args.self.now.functions.now c.args.self.now.function.now c.args.base c.args.items.now _ _ c.args.pass.now _ _ _ _ _ c.loop-item-test.true c.item-item.is
    c.loop-item.invariant c.in_ok-next.ensures c.in_ok-push.ensures.ok

pub returns : goal.returns
returns c =
    items_end c.args.self.now.functions.now c.args.self.now.function.now c.args.base c.args.items.now _ c.args.pass.now _ _ c.loop-item-test.false c.loop-item.invariant
