use Rattle.cm_board.proofs.LeadLaw.{opens}
use Rattle.cm_board.proofs.board.Board.open.Goals as goal

pub vacant-requires : goal.vacant-requires
vacant-requires g c = opens _ _ _ _
