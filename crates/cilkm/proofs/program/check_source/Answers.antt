use Rattle.cilkm.specs.declared.command.Command.TheVariants.{Check}
use Rattle.cilkm.specs.Source.{IsStopOf, stop_of_lending}
use Rattle.cilkm.proofs.SourceLaw.{handed_on, stops_lending}
use Rattle.cilkm.proofs.program.check_source.Goals as goal

pub returns-in_err-checked-clause-stop : goal.returns-in_err-checked-clause-stop
returns-in_err-checked-clause-stop c =
    let why = c.in_err-checked.field-0.0 in
    handed_on (IsStopOf Check c.args.source.now) c.from_residual-in_err-checked.result (stop_of_lending why) c.from_residual-in_err-checked.ensures.1
    (stops_lending c.args.source.now c.in_ok-program.program why c.in_ok-program.ensures.program c.in_err-checked.ensures.refusal)
