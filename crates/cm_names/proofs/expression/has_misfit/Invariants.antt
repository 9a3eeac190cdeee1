use Rattle.cm_names.proofs.ExpressionLaw.{Left}
use Rattle.cm_names.proofs.expression.has_misfit.Given as goal

-- the arguments and parameters that are left decide as all of them do
abbrev pub invariant-loop-index : goal.invariant-loop-index
invariant-loop-index l = Left l.variables l.arguments l.parameters l.index
