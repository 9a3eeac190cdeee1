use Rattle.std.proofs.Common.{drop}
use Rattle.cm_syntax.specs.Evaluation.{arguments_order}
use Rattle.cm_lend.proofs.AlikeLaw.{IsDone}
use Rattle.cm_lend.proofs.expression.+expression.Given as goal

abbrev pub invariant-arguments-loop-argument : goal.invariant-arguments-loop-argument
invariant-arguments-loop-argument l = IsDone (arguments_order l.passed) (arguments_order (drop l.argument-index l.passed)) l.whole
