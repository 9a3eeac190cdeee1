use Rattle.std.proofs.Common.{◌≡◌, map, take}
use Rattle.cm_syntax.specs.Frame.{frame_words}
use Rattle.cm_gen.proofs.front.frames.Given as goal

-- the words of the functions so far
abbrev pub invariant-loop-function : goal.invariant-loop-function
invariant-loop-function l = l.words ≡ map frame_words (take l.function-index l.list)
