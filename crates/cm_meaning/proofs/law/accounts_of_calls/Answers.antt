use Rattle.cm_meaning.proofs.AccountLaw.{account_is}
use Rattle.cm_meaning.proofs.law.accounts_of_calls.Goals as goal

pub returns : goal.returns
returns c = account_is
