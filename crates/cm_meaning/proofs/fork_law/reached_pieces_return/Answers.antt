use Rattle.cm_meaning.proofs.ReachedMeaning.{piece_ends, piece_bound, piece_pages}
use Rattle.cm_meaning.proofs.fork_law.reached_pieces_return.Goals as goal

pub returns-clause-ends : goal.returns-clause-ends
returns-clause-ends c = λ program input limits out v n p o never serial r stops. piece_ends program input limits never out v n serial p o r stops

pub returns-clause-bound : goal.returns-clause-bound
returns-clause-bound c = λ program input limits out v n p measure most never serial r greatest. piece_bound program input limits never out v n serial p measure most r greatest

pub returns-clause-pages : goal.returns-clause-pages
returns-clause-pages c = λ program input limits out v n p pages l never serial r is. piece_pages program input limits never out v n serial p pages l r is
