use Rattle.std.proofs.Common.{drop}
use Rattle.cm_syntax.specs.Evaluation.{body_order}
use Rattle.cm_lend.proofs.AlikeLaw.{IsDone}
use Rattle.cm_lend.proofs.statement.+statement.Given as goal

abbrev pub invariant-statements-loop-statement : goal.invariant-statements-loop-statement
invariant-statements-loop-statement l = IsDone (body_order l.body) (body_order (drop l.statement-index l.body)) l.whole
