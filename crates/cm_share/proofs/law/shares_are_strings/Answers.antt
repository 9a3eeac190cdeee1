use Rattle.cm_share.proofs.StringsLaw.{strings_lead}
use Rattle.cm_share.proofs.law.shares_are_strings.Goals as goal

pub returns-clause-points : goal.returns-clause-points
returns-clause-points c = strings_lead
