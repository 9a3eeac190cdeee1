use Rattle.std.proofs.Common.{◌++◌, ap, ◌∙◌}
use Rattle.cm_reader.specs.Spaced.{spaced}
use Rattle.cm_reader.proofs.SpacedLaw.{separated_step, separated_end}
use Rattle.cm_reader.proofs.PrinterLaw.{parameter_text, parameters_of}
use Rattle.cm_reader.proofs.printer.put_parameters.Goals as goal

pub loop-index-preserved : goal.loop-index-preserved
loop-index-preserved c =
    separated_step parameter_text _ _ _ _ _ _ _ c.loop-index-test.true c.index-parameters-index.is c.loop-index.invariant c.in_ok-put_comma.ensures c.in_ok-put_parameter.ensures

pub returns : goal.returns
returns c =
    separated_end parameter_text _ _ _ _ c.loop-index-test.false c.loop-index.invariant ∙ ap (λ tokens. c.args.text.now ++ spaced tokens) (parameters_of c.args.parameters.now)
