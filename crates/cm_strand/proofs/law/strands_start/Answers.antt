use Rattle.cm_strand.proofs.WorldLaw.{limit_of, first_of}
use Rattle.cm_strand.proofs.law.strands_start.Goals as goal
use Rattle.cm_strand.proofs.OtherLaw.{starts}
use Rattle.cm_strand.proofs.RootLaw.{root_starts}

pub returns-clause-child : goal.returns-clause-child
returns-clause-child c = λ w request asked s a b c d e f g. starts w.program w.limits.page (limit_of w) w.input w.image (first_of w) request s a b c d e f g

pub returns-clause-root : goal.returns-clause-root
returns-clause-root c = root_starts
