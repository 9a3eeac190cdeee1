use Rattle.cm_serial.specs.Stack.{stack_view}
use Rattle.cm_serial.proofs.StackLaw.{stack_is_map}
use Rattle.cm_serial.proofs.TurnLaw.{faults_not, goes_on, known, served}
use Rattle.cm_serial.proofs.run.turn.Goals as goal

pub serve-requires-clause-known : goal.serve-requires-clause-known
serve-requires-clause-known c =
    known c.args.code.now c.args.input.now (stack_view c.args.stack.now) c.args.hart.now c.step.result (stack_view c.step.new.words) c.step.new.hart
    (c.step.ensures.machine (stack_is_map c.args.stack.now)) c.step.ensures.service c.step.ensures.halts c.in-Service.service c.in-Service.is _ _ _ _ c.requires.run.3

pub unreachable-requires-in-Fault : goal.unreachable-requires-in-Fault
unreachable-requires-in-Fault c =
    faults_not c.args.code.now c.args.input.now (stack_view c.args.stack.now) c.args.hart.now c.step.result (stack_view c.step.new.words) c.step.new.hart
    (c.step.ensures.machine (stack_is_map c.args.stack.now)) c.step.ensures.service c.step.ensures.halts _ _ _ _ _ _ c.in-Fault.is c.requires.run.3

pub returns-in-Going : goal.returns-in-Going
returns-in-Going c = λ ticks e steps run.
    goes_on c.args.code.now c.args.input.now (stack_view c.args.stack.now) c.args.hart.now c.step.result (stack_view c.step.new.words) c.step.new.hart
    (c.step.ensures.machine (stack_is_map c.args.stack.now)) c.step.ensures.service c.step.ensures.halts ticks e _ steps c.in-Going.is run

pub returns-in_ok-stop-in-Service : goal.returns-in_ok-stop-in-Service
returns-in_ok-stop-in-Service c = λ ticks e steps run.
    served c.args.code.now c.args.input.now (stack_view c.args.stack.now) c.args.hart.now c.step.result (stack_view c.step.new.words) c.step.new.hart
    (c.step.ensures.machine (stack_is_map c.args.stack.now)) c.step.ensures.service c.step.ensures.halts c.in-Service.service c.in-Service.is ticks e steps
    c.args.output.now c.serve.new.output c.in_ok-stop-in-Service.stop c.serve.new.hart c.in_ok-stop-in-Service.ensures.registers c.in_ok-stop-in-Service.ensures.done run
