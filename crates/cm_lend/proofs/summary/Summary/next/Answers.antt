use Rattle.cm_lend.proofs.SummaryLaw.{sums_next}
use Rattle.cm_lend.proofs.summary.Summary.next.Goals as goal

pub returns : goal.returns
returns c = λ p q h i.
    rw c.in_ok-leaving.ensures (rw c.in_ok-entering.ensures (rw c.items-3.ensures
    (sums_next p q c.args.self c.args.second c.both-passes.result c.better-before.result c.in_ok-found.found h i
    c.both-passes.ensures c.better-before.ensures (rw c.items.ensures at (rw c.items-2.ensures at c.in_ok-found.ensures)))))
