use Rattle.cm_meaning.proofs.ChildLaw.{one_stack, same_loans, words_with}
use Rattle.cm_meaning.proofs.loan_law.loans_make_one_stack.Goals as goal

pub returns-clause-one : goal.returns-clause-one
returns-clause-one c = λ program input limits p sound accepted r. one_stack program input limits sound accepted p r

pub returns-clause-same : goal.returns-clause-same
returns-clause-same c = same_loans

pub returns-clause-words : goal.returns-clause-words
returns-clause-words c = words_with
