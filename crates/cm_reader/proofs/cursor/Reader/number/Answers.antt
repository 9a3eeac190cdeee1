use Rattle.std.proofs.Common.{sym, ap, refl, ◌∙◌}
use Rattle.cm_syntax.specs.declared.expr.Expr.TheVariants as expression
use Rattle.cm_syntax.specs.Yield.{Quantity}
use Rattle.cm_syntax.specs.Parser.{State}
use Rattle.cm_reader.specs.declared.start.PrimaryStart.TheVariants as primary
use Rattle.cm_reader.specs.Read.{answer}
use Rattle.cm_reader.proofs.StepLaw.{err_same}
use Rattle.cm_reader.proofs.ExpressionLaw.{literal_same, primary_goes}
use Rattle.cm_reader.proofs.cursor.Reader.number.Goals as goal

pub returns-in_err-rest-clause-err : goal.returns-in_err-rest-clause-err
returns-in_err-rest-clause-err c =
    err_same _ c.from_residual.result c.in_err-rest.field-0.0 c.from_residual.ensures.1
    (λ n k. c.in_err-rest.ensures.err (State.operand n k) _ (primary_goes n k c.args.tokens.now (primary.Number c.args.literal) (Quantity.literal c.args.literal) _ _ c.requires.none c.requires.start (λ token at. refl) refl))

pub returns-clause-ok : goal.returns-clause-ok
returns-clause-ok c =
    λ n k. c.in_ok-rest.ensures.ok (State.operand n k) _ (primary_goes n k c.args.tokens.now (primary.Number c.args.literal) (Quantity.literal c.args.literal) _ _ c.requires.none c.requires.start (λ token at. refl) refl) ∙ ap (λ z. answer c.args.self.length (k (expression.Number z) n) c.in_ok-rest.rest.now) (sym (literal_same c.args.literal c.in_ok-rest.ensures.within))
