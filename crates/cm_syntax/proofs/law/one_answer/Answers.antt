use Rattle.cm_syntax.proofs.refusing.OneAnswer.{IsAnswer-one, IsNameAnswer-one}
use Rattle.cm_syntax.proofs.law.one_answer.Goals as goal

pub returns-clause-source : goal.returns-clause-source
returns-clause-source c = IsAnswer-one

pub returns-clause-names : goal.returns-clause-names
returns-clause-names c = IsNameAnswer-one
