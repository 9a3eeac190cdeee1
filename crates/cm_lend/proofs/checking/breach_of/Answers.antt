use Rattle.std.proofs.Common.{subst}
use Rattle.cm_lend.specs.Breach.{IsBest, BreaksAmong}
use Rattle.cm_lend.proofs.AnswerLaw.{answer}
use Rattle.cm_lend.proofs.checking.breach_of.Goals as goal

pub returns : goal.returns
returns c = answer c.args.program.now c.in_ok-found.found (subst (λ fs. IsBest (BreaksAmong fs) c.in_ok-found.found) c.items.ensures c.in_ok-found.ensures)
