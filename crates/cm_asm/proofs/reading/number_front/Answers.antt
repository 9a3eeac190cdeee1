use Rattle.std.proofs.Common.{arith, refl}
use Rattle.cm_asm.specs.Listing.{hex}
use Rattle.cm_asm.proofs.ReadingLaw.{number-more, number-small}
use Rattle.cm_asm.proofs.reading.number_front.Goals as goal

pub loop-count-init : goal.loop-count-init
unfolding hex
loop-count-init c = record { inside = omega arith; digits = refl; small = omega arith }

pub loop-count-preserved : goal.loop-count-preserved
loop-count-preserved c =
    let l = c.loop-count in
    let text = c.args.text.now in
    let e = c.in-Some.ensures in
    record {
      inside = omega arith;
      digits = number-more text l.count l.value c.from.result (omega arith) l.invariant.digits (omega arith) (rw c.from.ensures e.value);
      small = number-small l.count l.value c.from.result l.invariant.small (omega arith);
    }
