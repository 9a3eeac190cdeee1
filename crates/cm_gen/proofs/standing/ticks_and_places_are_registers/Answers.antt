use Rattle.cm_gen.proofs.standing.ticks_and_places_are_registers.Goals as goal
use Rattle.cm_isa.specs.Address.{InstructionAt}
use Rattle.cm_gen.proofs.images.RegisterLaw.{other_ticks, other_low}

pub returns-clause-ticks : goal.returns-clause-ticks
returns-clause-ticks c = λ program form page input words spot left later d h m x. other_ticks program form page input (InstructionAt words) spot left later d h m x

pub returns-clause-low : goal.returns-clause-low
returns-clause-low c = λ program form page input words spot low left d h m may x. other_low program form page input (InstructionAt words) spot low left d h m may x
