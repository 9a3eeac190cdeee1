use Rattle.std.proofs.Common.{◌≡◌, ◌++◌, true, drop}
use Rattle.std.specs.Prelude.{◌==◌}
use Rattle.cm_syntax.specs.Canonical.{argument_text}
use Rattle.cm_reader.specs.Spaced.{spaced}
use Rattle.cm_reader.proofs.SpacedLaw.{separated}
use Rattle.cm_reader.proofs.printer.+expression.Given as goal

-- with the arguments that are left, what was put comes to the whole
abbrev pub invariant-put_call-loop-index : goal.invariant-put_call-loop-index
invariant-put_call-loop-index l =
    l.text ++ spaced (separated argument_text (l.index == 0) (drop l.index l.argument-items)) ≡ l.initial.text ++ spaced (separated argument_text true l.argument-items)
