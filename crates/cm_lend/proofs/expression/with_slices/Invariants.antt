use Rattle.std.proofs.Common.{◌≡◌, ◌++◌, drop}
use Rattle.cm_syntax.specs.Evaluation.{slices}
use Rattle.cm_lend.proofs.expression.with_slices.Given as goal

abbrev pub invariant-loop-argument : goal.invariant-loop-argument
invariant-loop-argument l = l.all ++ slices (drop l.argument-index l.passed) ≡ l.fn.before ++ slices l.passed
