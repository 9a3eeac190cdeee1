use Rattle.cm_share.proofs.ShareLaw.{share_comm, share_assoc, share_same, share_cancel, share_together, share_grows, share_apart, whole_alone}
use Rattle.cm_share.proofs.law.shares_come_together.Goals as goal

pub returns-clause-commutes : goal.returns-clause-commutes
returns-clause-commutes c = λ a b d s. share_comm s

pub returns-clause-associates : goal.returns-clause-associates
returns-clause-associates c = λ a b d x y s t. share_assoc s t

pub returns-clause-one_sum : goal.returns-clause-one_sum
returns-clause-one_sum c = λ a b x y s t. share_same s t

pub returns-clause-one_rest : goal.returns-clause-one_rest
returns-clause-one_rest c = λ a b d x s t. share_cancel s t

pub returns-clause-computed : goal.returns-clause-computed
returns-clause-computed c = λ a b d s. share_together s

pub returns-clause-less : goal.returns-clause-less
returns-clause-less c = λ a b s. share_grows s

pub returns-clause-alone : goal.returns-clause-alone
returns-clause-alone c = λ b d s. whole_alone s

pub returns-clause-apart : goal.returns-clause-apart
returns-clause-apart c = λ a d s. share_apart s
