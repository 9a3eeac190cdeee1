use Rattle.std.proofs.Common.{Some, ap}
use Rattle.cm_meaning.proofs.EvaluatorLaw.{word_is_true}
use Rattle.cm_meaning.proofs.OperatorLaw.{quotient_is}
use Rattle.cm_meaning.proofs.operator.quotient.Goals as goal

pub returns-else-right-eq0 : goal.returns-else-right-eq0
returns-else-right-eq0 c =
    let divides = word_is_true c.args.right c.if-right-eq0.false in
    rw divides (ap Some (quotient_is c.args.left c.args.right c.wrapping_div.result c.ranges.left c.ranges.right c.wrapping_div.ensures))
