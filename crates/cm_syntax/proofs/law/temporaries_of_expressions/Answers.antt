use Rattle.std.proofs.Common.{refl}
use Rattle.cm_syntax.proofs.law.temporaries_of_expressions.Goals as goal

pub returns-clause-right : goal.returns-clause-right
returns-clause-right c = refl

pub returns-clause-left : goal.returns-clause-left
returns-clause-left c = refl
