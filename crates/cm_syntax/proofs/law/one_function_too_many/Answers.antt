use Rattle.cm_syntax.proofs.naming.CountLaw.{too_many_functions}
use Rattle.cm_syntax.proofs.law.one_function_too_many.Goals as goal

pub returns : goal.returns
returns c = too_many_functions
