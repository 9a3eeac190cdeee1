use Rattle.std.proofs.Common.{take}
use Rattle.cm_names.specs.FunctionTable.{IsTable}
use Rattle.cm_names.proofs.functions.numbers_of.Given as goal

-- the table of the functions so far
abbrev pub invariant-loop-index : goal.invariant-loop-index
invariant-loop-index l = IsTable (take l.index l.functions) l.numbers
