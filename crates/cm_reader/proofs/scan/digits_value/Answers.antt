use Rattle.std.proofs.Common.{arith}
use Rattle.cm_reader.proofs.ScanLaw.{digit_more, digit_at}
use Rattle.cm_reader.proofs.scan.digits_value.Goals as goal

pub with_digit-value-requires : goal.with_digit-value-requires
with_digit-value-requires c =
    record { digit = digit_at c.args.digits.now c.loop-digit.digit-index c.loop-digit-test.true c.requires; value = c.loop-digit.invariant.0 }

pub loop-digit-preserved : goal.loop-digit-preserved
loop-digit-preserved c =
    (omega (arith, c.with_digit-value.ensures), digit_more c.args.digits.now _ _ _ _ c.loop-digit-test.true c.with_digit-value.ensures c.loop-digit.invariant.1)
