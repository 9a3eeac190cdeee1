use Rattle.std.proofs.Common.{◌-◌, arith}
use Rattle.cm_gen.proofs.parts.FunctionLaw.{function_fits_at}
use Rattle.cm_gen.proofs.function_code.functions.Goals as goal

pub function-requires-clause-fits : goal.function-requires-clause-fits
function-requires-clause-fits c =
    function_fits_at c.args.list.now (c.loop-at.at - 1) c.index-list-at.result c.requires.fits (omega (arith, c.loop-at.invariant.1, c.loop-at-test.true)) c.index-list-at.is
