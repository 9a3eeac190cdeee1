use Rattle.std.proofs.Common.{◌≡◌, ◌+◌, ◌-◌, ◌*◌, ◌≤◌, ◌++◌, drop, length}
use Rattle.cm_syntax.proofs.StatementLaw.{statement_size, body_size}
use Rattle.cm_gen.specs.Statement.{body_code}
use Rattle.cm_gen.proofs.statement.+statement.Given as goal

abbrev pub decreases-statement : goal.decreases-statement
decreases-statement l = 2 * statement_size l.value.now

abbrev pub decreases-alone : goal.decreases-alone
decreases-alone l = 2 * statement_size l.chosen.now + 1

abbrev pub decreases-choice : goal.decreases-choice
decreases-choice l = 2 * (statement_size l.chosen.now + statement_size l.other.now) + 1

abbrev pub decreases-repeat : goal.decreases-repeat
decreases-repeat l = 2 * statement_size l.body.now + 1

abbrev pub decreases-count : goal.decreases-count
decreases-count l = 2 * (statement_size l.step.now + statement_size l.body.now) + 1

abbrev pub decreases-statements : goal.decreases-statements
decreases-statements l = 2 * body_size l.list.now + 1

-- the code of the statements from this one on stands before what there was
abbrev pub invariant-statements-loop-at : goal.invariant-statements-loop-at
invariant-statements-loop-at l =
    (l.code ≡ body_code l.form l.layout (length l.fn.code - l.exit) (drop l.at l.list) ++ l.fn.code) × (l.at ≤ length l.list)

abbrev pub decreases-statements-loop-at : goal.decreases-statements-loop-at
decreases-statements-loop-at l = l.at
