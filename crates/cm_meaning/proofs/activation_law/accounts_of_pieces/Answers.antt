use Rattle.cm_meaning.proofs.AccountLaw.{piece_account, piece_bytes, pages_fit}
use Rattle.cm_meaning.proofs.activation_law.accounts_of_pieces.Goals as goal

pub returns-clause-account : goal.returns-clause-account
returns-clause-account c = piece_account

pub returns-clause-bytes : goal.returns-clause-bytes
returns-clause-bytes c = piece_bytes

pub returns-clause-pages : goal.returns-clause-pages
returns-clause-pages c = pages_fit
