use Rattle.cm_meaning.specs.Layout.{ArePut}
use Rattle.cm_meaning.proofs.frames.put_arguments.Given as goal

abbrev pub invariant-loop-slot : goal.invariant-loop-slot
invariant-loop-slot l =
    ArePut l.offsets l.base l.slot l.arguments l.fn.words.items l.words.items l.fn.references.items l.references.items
