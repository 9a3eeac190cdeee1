use Rattle.cm_strand.proofs.owned_law.owned_words_come_together.Goals as goal
use Rattle.cm_strand.proofs.OwnedLaw.{sums_commute, sums_pair, sum_none, sum_none_is, claim_sum}

pub returns-clause-commutes : goal.returns-clause-commutes
returns-clause-commutes c = sums_commute

pub returns-clause-associates : goal.returns-clause-associates
returns-clause-associates c = sums_pair

pub returns-clause-none : goal.returns-clause-none
returns-clause-none c = sum_none

pub returns-clause-none_alone : goal.returns-clause-none_alone
returns-clause-none_alone c = sum_none_is

pub returns-clause-claims : goal.returns-clause-claims
returns-clause-claims c = claim_sum
