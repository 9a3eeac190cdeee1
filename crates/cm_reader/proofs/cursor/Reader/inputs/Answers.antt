use Rattle.std.proofs.Common.{refl, ◌∙◌, true}
use Rattle.cm_syntax.specs.declared.expr.Expr.TheVariants as expression
use Rattle.cm_syntax.specs.declared.token.Sign.TheVariants as sign
use Rattle.cm_syntax.specs.Yield.{Quantity}
use Rattle.cm_syntax.specs.Parser.{State}
use Rattle.cm_reader.specs.declared.start.PrimaryStart.TheVariants as primary
use Rattle.cm_reader.proofs.StepLaw.{err_same, refused_on}
use Rattle.cm_reader.proofs.ExpressionLaw.{primary_goes}
use Rattle.cm_reader.proofs.cursor.Reader.inputs.Goals as goal

pub returns-in_err-rest-clause-err : goal.returns-in_err-rest-clause-err
returns-in_err-rest-clause-err c =
    err_same _ c.from_residual.result c.in_err-rest.field-0.0 c.from_residual.ensures.1
    (λ n k. c.in_err-rest.ensures.err (State.operand n k) _ (primary_goes n k c.args.tokens.now primary.Inputs Quantity.nothing _ true c.requires.none c.requires.start (λ token at. refl) refl))

pub returns-in_err-rest-2-clause-err : goal.returns-in_err-rest-2-clause-err
returns-in_err-rest-2-clause-err c =
    err_same _ c.from_residual-in_err-rest-2.result c.in_err-rest-2.field-0.0 c.from_residual-in_err-rest-2.ensures.1
    (λ n k. refused_on _ (c.in_ok-rest.ensures.ok (State.operand n k) _ (primary_goes n k c.args.tokens.now primary.Inputs Quantity.nothing _ true c.requires.none c.requires.start (λ token at. refl) refl)) (c.in_err-rest-2.ensures.err (State.sign_next sign.ParenClose (k expression.Inputs n))))

pub returns-in_err-rest-3-clause-err : goal.returns-in_err-rest-3-clause-err
returns-in_err-rest-3-clause-err c =
    err_same _ c.from_residual-in_err-rest-3.result c.in_err-rest-3.field-0.0 c.from_residual-in_err-rest-3.ensures.1
    (λ n k. refused_on _ (c.in_ok-rest.ensures.ok (State.operand n k) _ (primary_goes n k c.args.tokens.now primary.Inputs Quantity.nothing _ true c.requires.none c.requires.start (λ token at. refl) refl) ∙ c.in_ok-rest-2.ensures.ok (State.sign_next sign.ParenClose (k expression.Inputs n))) (c.in_err-rest-3.ensures.err (k expression.Inputs n)))

pub returns-clause-ok : goal.returns-clause-ok
returns-clause-ok c =
    λ n k. c.in_ok-rest.ensures.ok (State.operand n k) _ (primary_goes n k c.args.tokens.now primary.Inputs Quantity.nothing _ true c.requires.none c.requires.start (λ token at. refl) refl) ∙ (c.in_ok-rest-2.ensures.ok (State.sign_next sign.ParenClose (k expression.Inputs n)) ∙ c.in_ok-rest-3.ensures.ok (k expression.Inputs n))
