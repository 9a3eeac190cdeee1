use Rattle.std.proofs.Common.{ap, ◌∙◌, arith}
use Rattle.cm_strand.specs.Due.{joined_holes}
use Rattle.cm_strand.proofs.DueLaw.{holes_joined, output_joined}
use Rattle.cm_strand.proofs.TakeLaw.{joined_count, joined_paid}
use Rattle.cm_strand.proofs.log.Log.take_due.Goals as goal

pub returns : goal.returns
returns c = λ log h same. record {
  output = h.output ∙ output_joined c.args.first log;
  holes = c.take_from.ensures ∙ ap (joined_holes c.args.first) h.holes ∙ holes_joined c.args.first log;
  paid = let now = c.saturating_add-self.ensures in let before = h.paid in let all = joined_paid c.args.first log in omega (arith, now, before, all, same);
  few = let count = joined_count c.args.first log in let few = h.few in omega (arith, count, few);
}
