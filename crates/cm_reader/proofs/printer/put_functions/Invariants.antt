use Rattle.std.proofs.Common.{◌≡◌, ◌++◌, drop}
use Rattle.cm_syntax.specs.Canonical.{functions_text}
use Rattle.cm_reader.specs.Spaced.{spaced}
use Rattle.cm_reader.proofs.printer.put_functions.Given as goal

-- with the functions that are left, what was put comes to the whole
abbrev pub invariant-loop-function : goal.invariant-loop-function
invariant-loop-function l = l.text ++ spaced (functions_text (drop l.function-index l.functions)) ≡ l.initial.text ++ spaced (functions_text l.functions)
