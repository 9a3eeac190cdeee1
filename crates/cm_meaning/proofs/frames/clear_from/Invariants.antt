use Rattle.cm_meaning.specs.Layout.{AreCleared}
use Rattle.cm_meaning.proofs.frames.clear_from.Given as goal

abbrev pub invariant-loop-index : goal.invariant-loop-index
invariant-loop-index l = AreCleared l.start l.index l.fn.words.items l.words.items
