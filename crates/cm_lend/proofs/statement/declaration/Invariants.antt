use Rattle.std.proofs.Common.{drop}
use Rattle.cm_syntax.specs.Evaluation.{items_order}
use Rattle.cm_lend.proofs.AlikeLaw.{IsDone}
use Rattle.cm_lend.proofs.statement.declaration.Given as goal

abbrev pub invariant-loop-item : goal.invariant-loop-item
invariant-loop-item l = IsDone (items_order l.items) (items_order (drop l.item-index l.items)) l.whole
