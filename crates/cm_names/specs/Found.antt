-- What was found in the names of a tree.
use Rattle.std.specs.Prelude.{Bool, false, Option}
use Rattle.cm_syntax.specs.Fault.{Fault}

-- the fault that is answered of those that were found, and whether a mention of the present function is faulty
pub record Found : Type 0 where
  pub least : Option Fault
  pub has_faulty_mention : Bool

-- before a function, with the fault that is kept of those before it
abbrev pub found_before : Option Fault → Found
found_before least = record { least = least; has_faulty_mention = false }
