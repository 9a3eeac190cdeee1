use Rattle.cm_isa.proofs.Word.{low_product}
use Rattle.cm_isa.proofs.arithmetic.compute.Goals as goal

pub returns-in-Mul : goal.returns-in-Mul
returns-in-Mul c = rw c.in-Mul.is (low_product c.args.first c.args.second c.ranges.first.fits c.ranges.second.fits)
