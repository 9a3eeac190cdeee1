use Rattle.cm_gen.proofs.straight.+hand_over.Given as goal

-- each call is for fewer words
abbrev pub decreases-hand_over : goal.decreases-hand_over
decreases-hand_over l = l.count
