use Rattle.cilkm.proofs.PieceLaw.{behind_feed, behind_both, behind_last, behind_returned, behind_none}
use Rattle.cilkm.proofs.pieces.pieces_behind_the_line.Goals as goal

pub returns-clause-feed : goal.returns-clause-feed
returns-clause-feed c = behind_feed

pub returns-clause-both : goal.returns-clause-both
returns-clause-both c = behind_both

pub returns-clause-last : goal.returns-clause-last
returns-clause-last c = behind_last

pub returns-clause-returned : goal.returns-clause-returned
returns-clause-returned c = behind_returned

pub returns-clause-none : goal.returns-clause-none
returns-clause-none c = behind_none
