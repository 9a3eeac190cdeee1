use Rattle.std.proofs.Common.{arith, length-take, length-drop}
use Rattle.cm_text.proofs.StreamLemmas.{Appends-more}
use Rattle.cm_text.proofs.transfer.write_all.Goals as goal

pub loop-at-preserved : goal.loop-at-preserved
loop-at-preserved g c = record {
  within = omega (arith, simp (length-take, length-drop) at c.in_ok-at.ensures.bound);
  front = Appends-more _ _ _ _ _ _ c.loop-at.invariant.front c.in_ok-at.ensures.bytes;
  kept = omega (arith, c.in_ok-at.ensures.kept);
}
