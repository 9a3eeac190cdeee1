use Rattle.std.proofs.Common.{take}
use Rattle.cm_isa.specs.Address.{AreWordsOf}
use Rattle.cm_gen.proofs.laying.assemble_code.Given as goal

-- the words so far are those of the instructions so far
abbrev pub invariant-loop-instr : goal.invariant-loop-instr
invariant-loop-instr l = AreWordsOf l.words (take l.instr-index l.code)
