use Rattle.cm_lend.proofs.SummaryLaw.{sums_turns}
use Rattle.cm_lend.proofs.summary.Summary.turns.Goals as goal

pub returns : goal.returns
returns c = λ p h. sums_turns p c.args.self c.in_ok-met.met h (rw c.items.ensures at (rw c.items-2.ensures at c.in_ok-met.ensures))
