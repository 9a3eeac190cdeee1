use Rattle.std.proofs.Common.{sym, ◌∙◌, Some}
use Rattle.cm_reader.proofs.StepLaw.{err_same, refused_on}
use Rattle.cm_reader.proofs.StatementLaw.{no_value_same, some_value_same}
use Rattle.cm_reader.proofs.cursor.Reader.optional_value.Goals as goal

pub returns-then-is_next-clause-ok : goal.returns-then-is_next-clause-ok
returns-then-is_next-clause-ok c =
    λ k. no_value_same c.args.self.length k c.args.tokens.now (sym c.is_next.ensures ∙ c.if-is_next.true)

pub returns-in_err-value-clause-err : goal.returns-in_err-value-clause-err
returns-in_err-value-clause-err c =
    err_same _ c.from_residual.result c.in_err-value.field-0.0 c.from_residual.ensures.1
    (λ k. refused_on _ (some_value_same c.args.self.length k c.args.tokens.now (sym c.is_next.ensures ∙ c.if-is_next.false)) (c.in_err-value.ensures.err (λ e. k (Some e))))

pub returns-clause-ok : goal.returns-clause-ok
returns-clause-ok c =
    λ k. some_value_same c.args.self.length k c.args.tokens.now (sym c.is_next.ensures ∙ c.if-is_next.false) ∙ c.in_ok-value.ensures.ok (λ e. k (Some e))
