use Rattle.std.proofs.Common.{◌+◌, ◌*◌, drop}
use Rattle.cm_names.proofs.SizeLaw.{statement_size, optional_size, body_size}
use Rattle.cm_names.proofs.StepLaw.{BodyLeft}
use Rattle.cm_names.proofs.expression.Resolver.+statement.Given as goal

abbrev pub decreases-statement : goal.decreases-statement
decreases-statement l = 8 * statement_size l.statement.now

abbrev pub decreases-passing : goal.decreases-passing
decreases-passing l = 8 * statement_size l.statement.now + 1

abbrev pub decreases-inner : goal.decreases-inner
decreases-inner l = 8 * statement_size l.statement.now + 2

abbrev pub decreases-choice : goal.decreases-choice
decreases-choice l = 8 * (statement_size l.then.now + optional_size l.other.now) + 3

abbrev pub decreases-while_loop : goal.decreases-while_loop
decreases-while_loop l = 8 * statement_size l.body.now + 3

abbrev pub decreases-for_loop : goal.decreases-for_loop
decreases-for_loop l = 8 * (statement_size l.first.now + statement_size l.step.now + statement_size l.body.now) + 3

abbrev pub decreases-body : goal.decreases-body
decreases-body l = 8 * body_size l.body.now + 1

abbrev pub decreases-block : goal.decreases-block
decreases-block l = 8 * body_size l.body.now + 2

abbrev pub decreases-parts : goal.decreases-parts
decreases-parts l = 8 * body_size l.body.now + 3

abbrev pub decreases-split : goal.decreases-split
decreases-split l = 8 * body_size l.body.now + 4

-- with the statements that are left, what was resolved comes to the whole
abbrev pub invariant-body-loop-statement : goal.invariant-body-loop-statement
invariant-body-loop-statement l = BodyLeft l.self.functions.now l.self.function.now l.base l.body (drop l.statement-index l.body) l.initial.pass l.pass l.resolved
