use Rattle.std.proofs.Common.{sym, ap, refl, ◌∙◌, true, pos}
use Rattle.cm_syntax.specs.declared.expr.Expr.TheVariants as expression
use Rattle.cm_syntax.specs.Yield.{Quantity}
use Rattle.cm_syntax.specs.Parser.{State}
use Rattle.cm_reader.specs.declared.start.PrimaryStart.TheVariants as primary
use Rattle.cm_reader.specs.Read.{answer}
use Rattle.cm_reader.proofs.StepLaw.{err_same, refused_on}
use Rattle.cm_reader.proofs.ExpressionLaw.{primary_goes}
use Rattle.cm_reader.proofs.cursor.Reader.pointed_value.Goals as goal

pub returns-in_err-rest-clause-err : goal.returns-in_err-rest-clause-err
returns-in_err-rest-clause-err c =
    err_same _ c.from_residual.result c.in_err-rest.field-0.0 c.from_residual.ensures.1
    (λ n k. c.in_err-rest.ensures.err (State.operand n k) _ (primary_goes n k c.args.tokens.now primary.Pointee Quantity.nothing _ true c.requires.none c.requires.start (λ token at. refl) refl))

pub returns-in_err-name-clause-err : goal.returns-in_err-name-clause-err
returns-in_err-name-clause-err c =
    err_same _ c.from_residual-in_err-name.result c.in_err-name.field-0.0 c.from_residual-in_err-name.ensures.1
    (λ n k. refused_on _ (c.in_ok-rest.ensures.ok (State.operand n k) _ (primary_goes n k c.args.tokens.now primary.Pointee Quantity.nothing _ true c.requires.none c.requires.start (λ token at. refl) refl)) (c.in_err-name.ensures.err (λ p. k (expression.Index p (expression.Number (pos 0))) n)))

pub returns-clause-ok : goal.returns-clause-ok
returns-clause-ok c =
    λ n k. c.in_ok-rest.ensures.ok (State.operand n k) _ (primary_goes n k c.args.tokens.now primary.Pointee Quantity.nothing _ true c.requires.none c.requires.start (λ token at. refl) refl) ∙ (c.in_ok-name.ensures.ok (λ p. k (expression.Index p (expression.Number (pos 0))) n) ∙ ap (λ e. answer c.args.self.length (k (expression.Index c.in_ok-name.name e) n) c.in_ok-name.rest.now) (sym c.in_ok-first.ensures))
