use Rattle.std.proofs.Common.{◌∙◌, arith}
use Rattle.cm_reader.proofs.ScanLaw.{no_end_at}
use Rattle.cm_reader.proofs.scan.block_length.Goals as goal

pub loop-index-preserved : goal.loop-index-preserved
loop-index-preserved c =
    let more = no_end_at c.args.bytes.now c.loop-index.index c.is_pair.result c.loop-index-test.true c.is_pair.ensures c.if-is_pair.false in
    (more.later ∙ c.loop-index.invariant.0, omega (arith, more.longer, c.loop-index.invariant.1))
