use Rattle.std.proofs.Common.{◌++◌, subst}
use Rattle.cm_syntax.specs.Walk.{event, spawns, next}
use Rattle.cm_syntax.specs.Evaluation.{arguments_order, destination_order, destination_of, slices}
use Rattle.cm_lend.specs.Summary.{Sums}
use Rattle.cm_lend.proofs.statement.spawn.Goals as goal

pub returns : goal.returns
returns c =
    let passed = c.args.call.now.arguments in
    let destination = destination_order c.args.target.now in
    let lends = event (spawns c.args.at (destination_of c.args.target.now ++ slices passed)) in
    c.in_ok-whole.ensures (arguments_order passed) (next destination lends)
    (subst (λ xs. Sums (arguments_order xs) c.in_ok-arguments.field-0) c.items-2.ensures c.in_ok-arguments.ensures)
    (c.in_ok-behind.ensures destination lends c.in_ok-destination.ensures
    (subst (λ xs. Sums (event (spawns c.args.at (destination_of c.args.target.now ++ slices xs))) c.in_ok-lends.lends) c.items.ensures c.in_ok-lends.ensures))
