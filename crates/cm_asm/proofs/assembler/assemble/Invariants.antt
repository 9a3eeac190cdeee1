use Rattle.cm_asm.proofs.AssemblyLaw.{IsAssembledTo}
use Rattle.cm_asm.proofs.assembler.assemble.Given as goal

-- the words of the items so far, none of which is refused, and so the place of the next
abbrev pub invariant-loop-at : goal.invariant-loop-at
invariant-loop-at l = IsAssembledTo l.items l.at l.words
