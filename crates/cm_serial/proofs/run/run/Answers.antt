use Rattle.std.proofs.Common.{sym, subst, arith}
use Rattle.cm_isa.specs.Address.{InstructionAt}
use Rattle.cm_meaning.specs.Output.{numbers_of}
use Rattle.cm_hart.specs.Step.{hart_machine}
use Rattle.cm_serial.specs.Run.{RunEnds}
use Rattle.cm_serial.specs.Stack.{stack_view}
use Rattle.cm_serial.proofs.run.run.Goals as goal

pub run-init : goal.run-init
run-init c = λ e steps run. (
  steps,
  omega arith,
  subst (λ entries. RunEnds (InstructionAt c.args.code.now) c.args.input.now c.args.ticks (hart_machine (stack_view c.args.stack.now) c.args.hart.now) (numbers_of entries) steps e)
      (sym c.new-output.ensures) run,
)
