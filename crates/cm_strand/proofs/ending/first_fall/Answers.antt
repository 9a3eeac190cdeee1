use Rattle.std.proofs.Common.{◌∙◌, arith}
use Rattle.cm_strand.specs.declared.log.Hole as code_hole
use Rattle.cm_strand.specs.declared.log.Filling.TheVariants as filling
use Rattle.cm_strand.proofs.FallLaw.{trapped_here, spent_here, empty_here}
use Rattle.cm_strand.proofs.ending.first_fall.Goals as goal

pub returns-in-Trapped : goal.returns-in-Trapped
returns-in-Trapped c =
    let none : code_hole.Hole = record { used = 0; target = 0; filling = filling.Empty } in
    let all = c.saturating_add-all.ensures in let before = c.saturating_add-before.ensures in let used = c.from-in-Trapped.ensures in let more = c.from-in-Trapped-2.ensures in
    trapped_here c.args.holes.now c.loop-index.index c.loop-index.ticks c.saturating_add-all.result c.in-Trapped.more c.in-Trapped.kind none
    c.loop-index-test.true c.in-Trapped.is (omega (arith, all, before, used, more)) ∙ c.loop-index.invariant

pub returns-in-Spent : goal.returns-in-Spent
returns-in-Spent c =
    let none : code_hole.Hole = record { used = 0; target = 0; filling = filling.Empty } in
    spent_here c.args.holes.now c.loop-index.index c.loop-index.ticks none c.loop-index-test.true c.in-Spent.is ∙ c.loop-index.invariant

pub returns-in-Empty : goal.returns-in-Empty
returns-in-Empty c =
    let none : code_hole.Hole = record { used = 0; target = 0; filling = filling.Empty } in
    empty_here c.args.holes.now c.loop-index.index c.loop-index.ticks none c.loop-index-test.true c.in-Empty.is ∙ c.loop-index.invariant
