use Rattle.std.proofs.Common.{sym, refl, ◌∙◌}
use Rattle.cm_syntax.specs.Yield.{Quantity}
use Rattle.cm_reader.proofs.StepLaw.{err_same, refused_on}
use Rattle.cm_reader.proofs.StatementLaw.{no_last_same, last_simple_same}
use Rattle.cm_reader.proofs.cursor.Reader.last_part.Goals as goal

pub returns-in_ok-empty-clause-ok : goal.returns-in_ok-empty-clause-ok
returns-in_ok-empty-clause-ok c =
    λ k. rw (c.in_ok-empty.ensures) (no_last_same c.args.self.length k c.args.tokens.now (sym c.is_next.ensures ∙ c.if-is_next.true))

pub returns-in_err-simple-clause-err : goal.returns-in_err-simple-clause-err
returns-in_err-simple-clause-err c =
    err_same _ c.from_residual-in_err-simple.result c.in_err-simple.field-0.0 c.from_residual-in_err-simple.ensures.1
    (λ k. refused_on _ (last_simple_same c.args.self.length k c.args.tokens.now (sym c.is_next.ensures ∙ c.if-is_next.false)) (c.in_err-simple.ensures.err Quantity.nothing refl k))

pub returns-in_ok-statement-clause-ok : goal.returns-in_ok-statement-clause-ok
returns-in_ok-statement-clause-ok c =
    λ k. rw (c.in_ok-statement.ensures, c.statement_of.ensures) (last_simple_same c.args.self.length k c.args.tokens.now (sym c.is_next.ensures ∙ c.if-is_next.false) ∙ c.in_ok-simple.ensures.ok Quantity.nothing refl k)
