use Rattle.cm_words.proofs.HeldLaw.{sum_comm, sum_same, shares_apart, halves_back}
use Rattle.cm_words.proofs.law.grants_come_together.Goals as goal

pub returns-clause-commutes : goal.returns-clause-commutes
returns-clause-commutes c = sum_comm

pub returns-clause-one_sum : goal.returns-clause-one_sum
returns-clause-one_sum c = sum_same

pub returns-clause-apart : goal.returns-clause-apart
returns-clause-apart c = shares_apart

pub returns-clause-halves : goal.returns-clause-halves
returns-clause-halves c = halves_back
