use Rattle.std.proofs.Common.{◌≡◌, map, take}
use Rattle.cm_syntax.specs.Fault.{parameter_slots}
use Rattle.cm_gen.proofs.front.parameters.Given as goal

-- the slots of the functions so far
abbrev pub invariant-loop-function : goal.invariant-loop-function
invariant-loop-function l = l.slots ≡ map parameter_slots (take l.function-index l.list)
