use Rattle.std.proofs.Common.{◌+◌}
use Rattle.cm_gen.proofs.parts.ExpressionLaw.{weight, argument_weight, list_weight}
use Rattle.cm_gen.proofs.evaluation.+expression.Given as goal

abbrev pub decreases-expression : goal.decreases-expression
decreases-expression l = weight l.value.now

abbrev pub decreases-behind_left : goal.decreases-behind_left
decreases-behind_left l = weight l.right.now + 2

abbrev pub decreases-both : goal.decreases-both
decreases-both l = weight l.right.now + 1

abbrev pub decreases-either : goal.decreases-either
decreases-either l = weight l.right.now + 1

abbrev pub decreases-right_operand : goal.decreases-right_operand
decreases-right_operand l = weight l.right.now + 1

abbrev pub decreases-arguments : goal.decreases-arguments
decreases-arguments l = list_weight l.list.now + 1

abbrev pub decreases-argument : goal.decreases-argument
decreases-argument l = argument_weight l.value.now + 1
