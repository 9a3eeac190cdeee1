use Rattle.std.proofs.Common.{None, Some}
use Rattle.cm_syntax.specs.Walk.{event, ends, turns}
use Rattle.cm_syntax.specs.Evaluation.{rounds_order}
use Rattle.cm_lend.proofs.statement.for_loop.Goals as goal

pub returns-in_ok-whole-in-None : goal.returns-in_ok-whole-in-None
returns-in_ok-whole-in-None c = λ p q h i.
    rw c.in-None.is
    (c.in_ok-whole-in-None.ensures p (rounds_order None q) h
    (c.in_ok-rounds-in-None.ensures (turns q) (event ends) (c.in_ok-turns-in-None.ensures q i) c.end.ensures))

pub returns-in_ok-whole-in-Some : goal.returns-in_ok-whole-in-Some
returns-in_ok-whole-in-Some c = λ p q h i.
    rw c.in-Some.is
    (c.in_ok-whole-in-Some.ensures p (rounds_order (Some c.in-Some.test) q) h (c.in_ok-rounds-in-Some.ensures q i))
