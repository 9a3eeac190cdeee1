use Rattle.std.specs.Prelude.{FitsSigned}
use Rattle.std.specs.Int.{w32}
use Rattle.std.specs.List.{AllWithin}
use Rattle.cm_serial.proofs.run.read_all.Given as goal

-- the numbers that were read are words
abbrev pub invariant-numbers : goal.invariant-numbers
invariant-numbers l = AllWithin (FitsSigned w32) l.input 0 l.index
