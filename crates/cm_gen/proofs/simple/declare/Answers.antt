use Rattle.std.proofs.Common.{arith, ◌-◌}
use Rattle.cm_gen.proofs.parts.StatementLaw.{items_fit_at}
use Rattle.cm_gen.proofs.simple.declare.Goals as goal

pub declare_item-requires-clause-kind : goal.declare_item-requires-clause-kind
declare_item-requires-clause-kind c =
    (items_fit_at c.args.items.now (c.loop-at.at - 1) c.index-items-at.result c.requires (omega (arith, c.loop-at.invariant.1, c.loop-at-test.true)) c.index-items-at.is).0

pub declare_item-requires-clause-first : goal.declare_item-requires-clause-first
declare_item-requires-clause-first c =
    (items_fit_at c.args.items.now (c.loop-at.at - 1) c.index-items-at.result c.requires (omega (arith, c.loop-at.invariant.1, c.loop-at-test.true)) c.index-items-at.is).1
