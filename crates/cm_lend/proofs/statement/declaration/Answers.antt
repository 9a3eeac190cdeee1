use Rattle.std.proofs.Common.{subst, ◌+◌, drop}
use Rattle.std.proofs.lemmas.List.{drop_all}
use Rattle.cm_syntax.specs.Walk.{next}
use Rattle.cm_syntax.specs.Evaluation.{items_order, optional_order, mention_order}
use Rattle.cm_lend.proofs.TreeLaw.{items_follow}
use Rattle.cm_lend.proofs.AlikeLaw.{IsDone, none_done, all_done, more_done}
use Rattle.cm_lend.proofs.statement.declaration.Goals as goal

pub loop-item-init : goal.loop-item-init
loop-item-init c = none_done (items_order c.args.items.now) c.nothing-whole.result c.nothing-whole.ensures

pub loop-item-preserved : goal.loop-item-preserved
loop-item-preserved c =
    let items = c.args.items.now in
    let i = c.loop-item.item-index in
    let x = c.item-item.result in
    more_done (items_order items) (next (optional_order x.first) (mention_order x.name)) (items_order (drop (i + 1) items)) (items_order (drop i items))
    c.loop-item.whole c.in_ok-one.one c.in_ok-whole.whole c.loop-item.invariant
    (items_follow items i x c.loop-item-test.true c.item-item.is)
    (c.in_ok-one.ensures (optional_order x.first) (mention_order x.name) c.in_ok-optional.ensures c.in_ok-mention.ensures) c.in_ok-whole.ensures

pub returns : goal.returns
returns c =
    let items = c.args.items.now in
    all_done (items_order items) c.loop-item.whole
    (subst (λ xs. IsDone (items_order items) (items_order xs) c.loop-item.whole) (drop_all c.loop-item.item-index items c.loop-item-test.false) c.loop-item.invariant)
