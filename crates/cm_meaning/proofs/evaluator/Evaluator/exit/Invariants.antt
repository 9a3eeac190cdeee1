use Rattle.std.proofs.Common.{length}
use Rattle.cm_meaning.proofs.CallLaw.{Popped}
use Rattle.cm_meaning.proofs.evaluator.Evaluator.exit.Given as goal

-- only work and arguments up to the join are gone
abbrev pub invariant-loop-work : goal.invariant-loop-work
invariant-loop-work l = Popped l.initial.self l.self

abbrev pub decreases-loop-work : goal.decreases-loop-work
decreases-loop-work l = length l.self.rest.items
