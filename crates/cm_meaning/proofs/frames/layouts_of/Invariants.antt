use Rattle.std.proofs.Common.{◌≡◌, take, map}
use Rattle.cm_meaning.specs.Layout.{layout_of}
use Rattle.cm_meaning.proofs.frames.layouts_of.Given as goal

abbrev pub invariant-loop-function : goal.invariant-loop-function
invariant-loop-function l = l.layouts ≡ map layout_of (take l.function-index l.functions)
