use Rattle.cm_meaning.specs.Measure.{cilk_frames}
use Rattle.cm_meaning.proofs.CheckedLaw.{checked_ends, checked_bound, checked_pages}
use Rattle.cm_meaning.proofs.fork_law.checked_pieces_return.Goals as goal

pub returns-clause-ends : goal.returns-clause-ends
returns-clause-ends c = λ program input limits out v n p o sound accepted serial r s. checked_ends program input limits sound accepted out v n serial p r o s

pub returns-clause-pages : goal.returns-clause-pages
returns-clause-pages c = λ program input limits out v n pages sound accepted l serial g p r. checked_pages program input limits sound accepted out v n serial p r pages l g

pub returns-clause-depth : goal.returns-clause-depth
returns-clause-depth c = λ program input limits out v n most sound accepted serial g p r. checked_bound program input limits sound accepted out v n serial p r (cilk_frames program) most g
