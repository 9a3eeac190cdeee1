use Rattle.cm_asm.proofs.reading.+agreeing.Given as goal

abbrev pub decreases-agreeing : goal.decreases-agreeing
decreases-agreeing l = l.digits
