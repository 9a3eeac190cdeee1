use Rattle.cm_syntax.proofs.naming.NumberLaw.{function_declared, function_numbered}
use Rattle.cm_syntax.proofs.law.numbers_of_names.Goals as goal

pub returns-clause-mentions : goal.returns-clause-mentions
returns-clause-mentions c = function_numbered

pub returns-clause-declarations : goal.returns-clause-declarations
returns-clause-declarations c = function_declared
