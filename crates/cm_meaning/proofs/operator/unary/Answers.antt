use Rattle.std.proofs.Common.{Some, sym, ap, ◌∙◌}
use Rattle.cm_syntax.specs.Operator.{unary_value}
use Rattle.cm_meaning.proofs.OperatorLaw.{negative_is}
use Rattle.cm_meaning.proofs.operator.unary.Goals as goal

pub returns-in-Neg : goal.returns-in-Neg
returns-in-Neg c = ap Some (negative_is c.args.operand c.wrapping_neg.result c.ranges.operand c.wrapping_neg.ensures) ∙ sym (ap (λ o. unary_value o c.args.operand) c.in-Neg.is)
