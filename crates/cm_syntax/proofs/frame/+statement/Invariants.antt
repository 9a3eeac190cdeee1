use Rattle.std.proofs.Common.{◌≡◌, ◌+◌, max, drop}
use Rattle.cm_syntax.specs.Frame as frame
use Rattle.cm_syntax.specs.Frame.{capped}
use Rattle.cm_syntax.proofs.StatementLaw.{statement_size, body_size}
use Rattle.cm_syntax.proofs.frame.+statement.Given as goal

abbrev pub decreases-statement_temporaries : goal.decreases-statement_temporaries
decreases-statement_temporaries g l = statement_size l.statement.now

abbrev pub decreases-statements_temporaries : goal.decreases-statements_temporaries
decreases-statements_temporaries g l = body_size l.statements.now + 1

-- with the statements that are left, what was found comes to the whole
abbrev pub invariant-statements_temporaries-loop-statement : goal.invariant-statements_temporaries-loop-statement
invariant-statements_temporaries-loop-statement g l =
    max l.most (capped (frame.body_temporaries (drop l.statement-index l.statements))) ≡ capped (frame.body_temporaries l.statements)
