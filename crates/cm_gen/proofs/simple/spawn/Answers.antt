use Rattle.std.proofs.lemmas.Result.{on_ok_weaker}
use Rattle.cm_gen.proofs.parts.ExpressionLaw.{invokes-Call, spawned_at}
use Rattle.cm_gen.proofs.simple.spawn.Goals as goal

pub arguments-requires : goal.arguments-requires
arguments-requires c = (invokes-Call c.args.call.now c.items.result.now c.args.layout.now c.items.ensures c.requires.call).fits

pub returns : goal.returns
returns c =
    let parts = invokes-Call c.args.call.now c.items.result.now c.args.layout.now c.items.ensures c.requires.call in
    on_ok_weaker _ (spawned_at c.args.form c.args.layout.now c.args.call.now c.items.result.now _ _ _ _ _ parts c.destination_slot.ensures c.in_ok-enter_spawn.ensures) c.arguments.ensures
