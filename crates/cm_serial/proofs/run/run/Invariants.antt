use Rattle.std.proofs.Common.{◌≡◌, [], ℕ, ◌+◌}
use Rattle.cm_isa.specs.Address.{InstructionAt}
use Rattle.cm_meaning.specs.End.{End}
use Rattle.cm_meaning.specs.Output.{numbers_of}
use Rattle.cm_hart.specs.Step.{hart_machine}
use Rattle.cm_serial.specs.Run.{RunEnds}
use Rattle.cm_serial.specs.Stack.{stack_view}
use Rattle.cm_serial.proofs.run.run.Given as goal

-- each way in which the run ends from the start it ends from here, in fewer steps
abbrev pub invariant-run : goal.invariant-run
invariant-run l = (e : End) (steps : ℕ) → RunEnds (InstructionAt l.fn.code) l.fn.input l.fn.ticks (hart_machine (stack_view l.fn.stack) l.fn.hart) [] steps e
    → (left : ℕ) × (steps ≡ l.before + left) × RunEnds (InstructionAt l.code) l.input l.ticks (hart_machine (stack_view l.stack) l.hart) (numbers_of l.output) left e
