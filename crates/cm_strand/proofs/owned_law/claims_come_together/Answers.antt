use Rattle.cm_strand.proofs.owned_law.claims_come_together.Goals as goal
use Rattle.cm_strand.proofs.OwnedLaw.{claims_commute, claims_pair, claims_none, one_claim, written_alone, whole_of_sum, may_write_first}

pub returns-clause-commutes : goal.returns-clause-commutes
returns-clause-commutes c = claims_commute

pub returns-clause-associates : goal.returns-clause-associates
returns-clause-associates c = claims_pair

pub returns-clause-none : goal.returns-clause-none
returns-clause-none c = claims_none

pub returns-clause-one_sum : goal.returns-clause-one_sum
returns-clause-one_sum c = one_claim

pub returns-clause-alone : goal.returns-clause-alone
returns-clause-alone c = written_alone

pub returns-clause-rest : goal.returns-clause-rest
returns-clause-rest c = may_write_first

pub returns-clause-whole : goal.returns-clause-whole
returns-clause-whole c = whole_of_sum
