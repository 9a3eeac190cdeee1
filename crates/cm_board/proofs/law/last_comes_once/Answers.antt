use Rattle.cm_board.proofs.OnceLaw.{one_leads, none_arrives}
use Rattle.cm_board.proofs.law.last_comes_once.Goals as goal

pub returns-clause-one : goal.returns-clause-one
returns-clause-one g c = one_leads _ _ _

pub returns-clause-none : goal.returns-clause-none
returns-clause-none g c = none_arrives _ _ _
