use Rattle.std.proofs.Common.{arith}
use Rattle.cm_asm.proofs.ListingLaw.{listing-more}
use Rattle.cm_asm.proofs.listing.list.Goals as goal

pub loop-word-preserved : goal.loop-word-preserved
loop-word-preserved c = record {
  lines = listing-more c.items-word-items.result.now c.loop-word.text c.put_line.new.text c.loop-word.word-index c.loop-word.address
      c.loop-word-test.true c.loop-word.invariant.lines c.loop-word.invariant.place c.in_ok-put_line.ensures;
  place = omega arith;
}
