use Rattle.std.proofs.Common.{◌≡◌, ◌++◌, drop}
use Rattle.cm_syntax.specs.Canonical.{body_text}
use Rattle.cm_reader.specs.Spaced.{spaced}
use Rattle.cm_reader.proofs.printer.+statement.Given as goal

-- with the statements that are left, what was put comes to the whole
abbrev pub invariant-put_block-loop-statement : goal.invariant-put_block-loop-statement
invariant-put_block-loop-statement l = l.text ++ spaced (body_text (drop l.statement-index l.body)) ≡ l.initial.text ++ spaced (body_text l.body)
