use Rattle.cm_syntax.specs.Canonical.{function_text, functions_text}
use Rattle.cm_reader.proofs.SpacedLaw.{list_step, list_end}
use Rattle.cm_reader.proofs.PrinterLaw.{functions_lists}
use Rattle.cm_reader.proofs.printer.put_functions.Goals as goal

pub loop-function-preserved : goal.loop-function-preserved
loop-function-preserved c =
    list_step function_text functions_text functions_lists _ _ _ _ _ _ c.loop-function-test.true c.function-item.is c.loop-function.invariant c.in_ok-put_function.ensures

pub returns : goal.returns
returns c = list_end function_text functions_text functions_lists _ _ _ _ c.loop-function-test.false c.loop-function.invariant
