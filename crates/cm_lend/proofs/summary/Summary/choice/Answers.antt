use Rattle.cm_lend.proofs.SummaryLaw.{sums_choice}
use Rattle.cm_lend.proofs.summary.Summary.choice.Goals as goal

pub returns : goal.returns
returns c = λ p q h i.
    rw c.in_ok-leaving.ensures (rw c.in_ok-entering.ensures (rw c.items.ensures (rw c.items-2.ensures
    (sums_choice p q c.args.self c.args.other c.either-passes.result c.better-found.result h i c.either-passes.ensures c.better-found.ensures))))
