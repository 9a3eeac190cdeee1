use Rattle.cm_share.proofs.ShareLaw.{share_halves}
use Rattle.cm_share.proofs.StringsLaw.{halves_first}
use Rattle.cm_share.proofs.law.shares_are_halved.Goals as goal

pub returns-clause-sum : goal.returns-clause-sum
returns-clause-sum c = share_halves

pub returns-clause-first : goal.returns-clause-first
returns-clause-first c = halves_first
